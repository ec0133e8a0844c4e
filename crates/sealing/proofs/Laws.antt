-- The laws of sealing: each way through a text undoes the other, and finds the same tag. Assumes nothing.
use Rattle.std.proofs.Common.{◌≡◌, ℕ, zero, suc, ◌+◌, ◌-◌, ◌*◌, ◌/◌, ◌<◌, ◌≤◌, Bool, true, false, cond, List, length, take, is_some, Some, sym, refl, ap, ◌∙◌, ap₂, arith}
use lib.ListN.{length-replicate}
use Rattle.std.specs.Int.Digits.{AllBelowBase}
use Rattle.std.proofs.ByRecursion.{All-take}
use Rattle.std.proofs.lemmas.Slice.Eq.{bytes_eq-Decides}
use Rattle.std.proofs.lemmas.List.{length-take-le}
use Rattle.sealing.specs.declared.omd.Way.{Way}
use Rattle.sealing.specs.declared.omd.Way.TheVariants.{Sealing, Opening}
use Rattle.sealing.specs.Strings.{◌⊕◌, zeros, last_block, block_count, block, chained, summed}
use Rattle.sealing.specs.Omd.{Δ, Δ₀, HASH, absorbed, plain, chaining_at, other_text, ended, ended_at, Tag, sealed, opened}
use Rattle.sealing.specs.Laws.{SealingIsLawful}
use Rattle.sealing.proofs.Sums.{length_⊕, added_twice, under_⊕}
use Rattle.sealing.proofs.Blocks.{chained_same, chained_blocks, length_block_le, length_chained, block_chained, under_block, under_chained}

abbrev pub other : Way → Way
other Sealing = Opening
other Opening = Sealing

-- the message block, found again from the sum with the chaining_at value
plain_other : (way : Way) (H X : List ℕ) → length X ≤ length H → plain (other way) H (H ⊕ X) ≡ plain way H X
plain_other Sealing H X h = added_twice H X h
plain_other Opening H X h = refl

under_zeros : (n : ℕ) → AllBelowBase 256 (zeros n)
under_zeros zero = tt
under_zeros (suc n) = (omega arith, under_zeros n)

-- What holds of zeros, of sums and of the values of F holds of each block that OMD works out.
module _ (b : ℕ) (F : List ℕ → List ℕ → List ℕ) (P : List ℕ → Type 0) (none : P (zeros b)) (sum : (xs ys : List ℕ) → P xs → P ys → P (xs ⊕ ys)) (value : (H M : List ℕ) → P (F H M)) where
  holds_chaining : (way : Way) (N : List ℕ) (t : ℕ) (X : List ℕ) (i : ℕ) → P (chaining_at b F way N t X i)
  unfolding chaining_at
  holds_chaining way N t X zero = value _ _
  holds_chaining way N t X (suc i) = value _ _

  picked : (t : Bool) (xs ys : List ℕ) → P xs → P ys → P (cond t xs ys)
  picked true xs ys h k = h
  picked false xs ys h k = k

  holds_ended : (m H M : List ℕ) → P H → P (ended b F m H M)
  holds_ended m H M h = search (picked, value)

  holds_absorbed : (A : List ℕ) (i : ℕ) → P (absorbed b F A i)
  unfolding absorbed
  holds_absorbed A i = search (picked, value)

  holds_summed : (f : ℕ → List ℕ) → ((i : ℕ) → P (f i)) → (n : ℕ) → P (summed b f n)
  unfolding summed
  holds_summed f each zero = none
  holds_summed f each (suc n) = sum (summed b f n) (f n) (holds_summed f each n) (each n)

  holds_hash : (A : List ℕ) → P (HASH b F A)
  unfolding HASH
  holds_hash A = holds_summed (absorbed b F A) (holds_absorbed A) (block_count (2 * b) A)

  -- the tag before it is cut
  holds_whole_tag : (way : Way) (N A : List ℕ) (t : ℕ) (X : List ℕ) (l : ℕ) → P (ended_at b F way N t X l ⊕ HASH b F A)
  holds_whole_tag way N A t X l = sum _ _ (holds_ended _ _ _ (holds_chaining way N t X l)) (holds_hash A)

-- Where the values of F have b bytes: lengths, and the way back.
module _ (b : ℕ) (F : List ℕ → List ℕ → List ℕ) (sized : (H M : List ℕ) → length (F H M) ≡ b) where
  sums_sized : (xs ys : List ℕ) → length xs ≡ b → length ys ≡ b → length (xs ⊕ ys) ≡ b
  sums_sized xs ys h k = length_⊕ xs ys (omega arith) ∙ k

  pub length_chaining : (way : Way) (N : List ℕ) (t : ℕ) (X : List ℕ) (i : ℕ) → length (chaining_at b F way N t X i) ≡ b
  length_chaining = holds_chaining b F (λ xs. length xs ≡ b) (length-replicate b 0) sums_sized sized

  pub length_tag : (way : Way) (N A : List ℕ) (t : ℕ) (X : List ℕ) → t ≤ b → length (Tag b F way N A t X) ≡ t
  unfolding Tag
  length_tag way N A t X h =
      let l : ℕ = last_block b X in
      let whole : length (ended_at b F way N t X l ⊕ HASH b F A) ≡ b =
      holds_whole_tag b F (λ xs. length xs ≡ b) (length-replicate b 0) sums_sized sized way N A t X l in
      length-take-le t (ended_at b F way N t X l ⊕ HASH b F A) (omega arith)

  -- through a text X, and back
  module _ (way : Way) (N : List ℕ) (t : ℕ) (X : List ℕ) where
    block_fits : (i : ℕ) → length (block b X i) ≤ length (chaining_at b F way N t X i)
    block_fits i = omega (arith, length_chaining way N t X i, length_block_le b X i)

    pub length_sum : (i : ℕ) → i < block_count b X → length (chaining_at b F way N t X i ⊕ block b X i) ≡ length (block b X i)
    length_sum i h = length_⊕ (chaining_at b F way N t X i) (block b X i) (block_fits i)

    pub block_other : (i : ℕ) → i < block_count b X → block b (other_text b F way N t X) i ≡ chaining_at b F way N t X i ⊕ block b X i
    unfolding other_text
    block_other = block_chained b X (λ i. chaining_at b F way N t X i ⊕ block b X i) length_sum

    -- where the chaining_at value is the same both ways, so is the message block
    plain_back : (i : ℕ) → i < block_count b X → chaining_at b F (other way) N t (other_text b F way N t X) i ≡ chaining_at b F way N t X i → plain (other way) (chaining_at b F (other way) N t (other_text b F way N t X) i) (block b (other_text b F way N t X) i) ≡ plain way (chaining_at b F way N t X i) (block b X i)
    plain_back i h same =
        ap₂ (plain (other way)) same (block_other i h) ∙ plain_other way (chaining_at b F way N t X i) (block b X i) (block_fits i)

    pub chaining_back : (i : ℕ) → i < block_count b X → chaining_at b F (other way) N t (other_text b F way N t X) i ≡ chaining_at b F way N t X i
    unfolding chaining_at
    chaining_back zero h = refl
    chaining_back (suc i) h =
        let below : i < block_count b X = omega arith in
        ap₂ (λ H M. F (H ⊕ Δ b F (Δ₀ b F N) (i + 2)) M) (chaining_back i below) (plain_back i below (chaining_back i below))

    module _ (pos : 0 < b) where
      pub length_other : length (other_text b F way N t X) ≡ length X
      unfolding other_text
      length_other = length_chained b X (λ i. chaining_at b F way N t X i ⊕ block b X i) length_sum pos

      same_count : block_count b (other_text b F way N t X) ≡ block_count b X
      same_count = ap (λ n. (n - 1) / b + 1) length_other

      pub other_back : other_text b F (other way) N t (other_text b F way N t X) ≡ X
      unfolding other_text
      other_back =
          let Y : List ℕ = other_text b F way N t X in
          let back : ℕ → List ℕ = λ i. chaining_at b F (other way) N t Y i ⊕ block b Y i in
          let same : (i : ℕ) → i < block_count b X → back i ≡ block b X i =
          λ i h. ap₂ ◌⊕◌ (chaining_back i h) (block_other i h) ∙ added_twice (chaining_at b F way N t X i) (block b X i) (block_fits i) in
          ap (chained back) same_count ∙ chained_same back (block b X) (block_count b X) same ∙ chained_blocks b X pos

      pub tag_back : (A : List ℕ) → Tag b F (other way) N A t (other_text b F way N t X) ≡ Tag b F way N A t X
      unfolding Tag
      tag_back A =
          let Y : List ℕ = other_text b F way N t X in
          let l : ℕ = last_block b X in
          let last : l < block_count b X = omega arith in
          let cut : List ℕ → List ℕ → List ℕ = λ H M. take t (ended b F (Δ b F (Δ₀ b F N) (l + 1)) H M ⊕ HASH b F A) in
          ap (λ n. take t (ended_at b F (other way) N t Y ((n - 1) / b) ⊕ HASH b F A)) length_other
          ∙ ap₂ cut (chaining_back l last) (plain_back l last (chaining_back l last))

-- What opening finds: the message, where the tag is the right one.
module _ (b : ℕ) (F : List ℕ → List ℕ → List ℕ) (N A C T : List ℕ) where
  opened_right : Tag b F Opening N A (length T) C ≡ T → opened b F N A C T ≡ Some (other_text b F Opening N (length T) C)
  opened_right right = grind (arith, bytes_eq-Decides)

  opened_tag : is_some (opened b F N A C T) ≡ true → Tag b F Opening N A (length T) C ≡ T
  opened_tag some = grind (arith, bytes_eq-Decides)

  pub opened_is : is_some (opened b F N A C T) ≡ true → opened b F N A C T ≡ Some (other_text b F Opening N (length T) C)
  opened_is some = opened_right (opened_tag some)

-- Where the values of F are bytes, so is all that is worked out.
module _ (b : ℕ) (F : List ℕ → List ℕ → List ℕ) (bytes : (H M : List ℕ) → AllBelowBase 256 (F H M)) where
  pub under_tag : (way : Way) (N A : List ℕ) (t : ℕ) (X : List ℕ) → AllBelowBase 256 (Tag b F way N A t X)
  unfolding Tag
  under_tag way N A t X =
      All-take (λ d. d < 256) t _ (holds_whole_tag b F (AllBelowBase 256) (under_zeros b) under_⊕ bytes way N A t X (last_block b X))

  pub under_other : (way : Way) (N : List ℕ) (t : ℕ) (X : List ℕ) → AllBelowBase 256 X → AllBelowBase 256 (other_text b F way N t X)
  unfolding other_text
  under_other way N t X h =
      let each : (i : ℕ) → AllBelowBase 256 (chaining_at b F way N t X i ⊕ block b X i) =
      λ i. under_⊕ _ _ (holds_chaining b F (AllBelowBase 256) (under_zeros b) under_⊕ bytes way N t X i) (under_block b X 256 i h) in
      under_chained 256 (λ i. chaining_at b F way N t X i ⊕ block b X i) (block_count b X) each

pub lawful : (b : ℕ) (F : List ℕ → List ℕ → List ℕ) → 0 < b → ((H M : List ℕ) → length (F H M) ≡ b) → ((H M : List ℕ) → AllBelowBase 256 (F H M)) → SealingIsLawful b F
lawful b F pos sized bytes = record {
  lengths = λ N A M t h. (length_other b F sized Sealing N t M pos, length_tag b F sized Sealing N A t M h);
  bytes = λ N A M t h. (under_other b F bytes Sealing N t M h, under_tag b F bytes Sealing N A t M);
  sealed_opens = λ N A M t h.
      let C : List ℕ = other_text b F Sealing N t M in
      let T : List ℕ = Tag b F Sealing N A t M in
      let long : length T ≡ t = length_tag b F sized Sealing N A t M h in
      opened_right b F N A C T (ap (λ k. Tag b F Opening N A k C) long ∙ tag_back b F sized Sealing N t M pos A)
      ∙ ap (λ k. Some (other_text b F Opening N k C)) long ∙ ap Some (other_back b F sized Sealing N t M pos);
  opened_was_sealed = λ N A C T M h.
      let t : ℕ = length T in
      let some : is_some (opened b F N A C T) ≡ true = ap is_some h in
      let found : opened b F N A C T ≡ Some (other_text b F Opening N t C) = opened_is b F N A C T some in
      let is : M ≡ other_text b F Opening N t C = cc in
      ap (λ X. sealed b F N A X t) is
      ∙ ap₂ (λ X Y. (X, Y)) (other_back b F sized Opening N t C pos) (tag_back b F sized Opening N t C pos A ∙ opened_tag b F N A C T some);
  never_the_same = λ N A M M' t same.
      sym (other_back b F sized Sealing N t M pos) ∙ ap (λ s. other_text b F Opening N t s.0) same ∙ other_back b F sized Sealing N t M' pos;
}
