-- When a block may be opened, and what it is opened with. Assumes nothing.
use Rattle.std.specs.Prelude.{ℕ, zero, suc, Bool, false, ◌||◌, List, [], ◌∷◌, length, Ok, Err, ◌==◌, nat_lt}
use Rattle.refusal.specs.declared.Refusal.TheVariants.{CodeCount, StationTable, RegisterSize, BlockNumber, KeyLength}
use Rattle.refusal.specs.Verdict.{Verdict, judged}
use Rattle.counter.specs.declared.cell.CodeCell.{CodeCell}
use Rattle.counter.specs.declared.cell.RegisterCell.{RegisterCell}
use Rattle.counter.specs.declared.opening.Opening.{Opening}
use Rattle.counter.specs.declared.station.Station.{Station}
use Rattle.counter.specs.Cells.{station_of}
use Rattle.counter.specs.Ledger.{Terms, total}

-- What `check` and `open` are given; of the compression, its kind and its shortest and longest key.
pub record Given : Type 0 where
  pub kind : ℕ
  pub shortest : ℕ
  pub longest : ℕ
  pub site : ℕ
  pub number : ℕ
  pub key : List ℕ
  pub codes : List CodeCell
  pub register : List RegisterCell
  pub stations : List Station

-- What an opening gives, under a compression of this kind with keys of such lengths.
abbrev pub given : (kind shortest longest : ℕ) → Opening → Given
given kind shortest longest x = record { kind = kind; shortest = shortest; longest = longest; site = x.site; number = x.block; key = x.key.now; codes = x.codes.now; register = x.register.now; stations = x.stations.now }

-- No cells, or more than 4,096.
abbrev pub no_size : ℕ → Bool
no_size n = n == 0 || nat_lt 4096 n

-- A guarantee above its limit, or a limit above the number of codes.
abbrev pub breaks : ℕ → Station → Bool
breaks n s = nat_lt s.limit s.guarantee || nat_lt n s.limit

-- One of the stations 1 to m breaks the rule.
abbrev pub some_breaks : ℕ → List Station → ℕ → Bool
some_breaks n table zero = false
some_breaks n table (suc m) = some_breaks n table m || breaks n (station_of table (suc m))

-- No stations or more than 8, one that breaks the rule, or guarantees that add up to more than the codes.
abbrev pub unfit : ℕ → List Station → Bool
unfit n table = (length table == 0 || nat_lt 8 (length table)) || (some_breaks n table (length table) || nat_lt n (total (λ k. (station_of table k).guarantee) (length table)))

abbrev pub check_verdict : Given → Verdict
check_verdict g =
    judged (
    (no_size (length g.codes), CodeCount)
    ∷ (unfit (length g.codes) g.stations, StationTable)
    ∷ (no_size (length g.register), RegisterSize)
    ∷ (g.site == 0 || (g.number == 0), BlockNumber)
    ∷ (nat_lt (length g.key) g.shortest || nat_lt g.longest (length g.key), KeyLength)
    ∷ [])

-- A block that may be opened has all codes and stations, one that may not has none.
abbrev pub admitted : Given → (codes stations : ℕ) → Terms
admitted g codes stations = record { setting = record { kind = g.kind; site = g.site; number = g.number; key = g.key; table = g.stations; stations = stations }; codes = codes; found = g.codes; register = g.register }

abbrev pub terms_by : Given → Verdict → Terms
terms_by g (Ok _) = admitted g (length g.codes) (length g.stations)
terms_by g (Err _) = admitted g 0 0

abbrev pub terms : Given → Terms
terms g = terms_by g (check_verdict g)
