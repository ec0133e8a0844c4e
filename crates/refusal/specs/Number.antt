-- The number of each refusal. Assumes nothing.
use Rattle.std.specs.Prelude.{ℕ}
use Rattle.refusal.specs.declared.Refusal.{Refusal}
use Rattle.refusal.specs.declared.Refusal.TheVariants.{CodeCount, StationTable, RegisterSize, BlockNumber, KeyLength, UnknownStation, ZeroCount, MoreThanReserved, OverLimit, OwedToOthers, NothingReserved, SlipNotDrawn, RecordLength, RegisterFull, ImageLength, KindMismatch, ImageNumber, PlaceLength, CellNotIssued, NonceLength, TagLength, TextLength, TagMismatch}

abbrev pub number : Refusal → ℕ
number CodeCount = 1
number StationTable = 2
number RegisterSize = 3
number BlockNumber = 4
number KeyLength = 5
number UnknownStation = 6
number ZeroCount = 7
number MoreThanReserved = 8
number OverLimit = 9
number OwedToOthers = 10
number NothingReserved = 11
number SlipNotDrawn = 12
number RecordLength = 13
number RegisterFull = 14
number ImageLength = 15
number KindMismatch = 16
number ImageNumber = 17
number PlaceLength = 18
number CellNotIssued = 19
number NonceLength = 20
number TagLength = 21
number TextLength = 22
number TagMismatch = 23
