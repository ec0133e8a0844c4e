use Rattle.std.proofs.Common.{◌≡◌, ℕ, List, length, take, Ok, sym, ap, ◌∙◌, arith}
use Rattle.sealing.proofs.Buffers.{fits}
use Rattle.image.specs.Image.{message_length}
use Rattle.image.specs.Look.{look_verdict}
use Rattle.compression.specs.Compress.{key_verdict}
use Rattle.image.specs.Open.{data_of}
use Rattle.image.proofs.Accepted.{accepted}
use Rattle.image.proofs.Fields.{ciphertext_long}
use Rattle.image.proofs.Opened.{opens}
use Rattle.image.proofs.open.open_named.Goals as goal

pub returns : goal.returns
returns g c =
    let kind : ℕ = g.C.Compression.KIND in
    let b : ℕ = g.C.Compression.BLOCK_LEN in
    let key : List ℕ = c.args.key.now in
    let I : List ℕ = c.args.image.now in
    let place : List ℕ = c.args.place.now in
    let key_ok : key_verdict g.C.Compression.SHORTEST_KEY g.C.Compression.LONGEST_KEY key ≡ Ok tt = sym c.key_tested.ensures ∙ c.in_ok-key_tested.was in
    let looked : look_verdict kind I ≡ Ok tt =
    ap (λ k. look_verdict k I) (sym (c.from.ensures ∙ c.KIND.ensures)) ∙ sym c.look_tested.ensures.verdict ∙ c.in_ok-look_tested.was in
    let long : length c.cut-parts.result.ciphertext.bytes.now ≡ message_length I =
    ap (λ s. length s.ciphertext) c.cut-parts.ensures ∙ ciphertext_long kind I (accepted kind I looked) in
    let data_is : take c.cut-parts.result.ciphertext.at I ≡ data_of I = ap (λ s. take s.ciphertext_at I) c.cut-parts.ensures in
    let both = opens kind b g.C.Compression.SHORTEST_KEY g.C.Compression.LONGEST_KEY g.C.Compression.meaning key I place key_ok looked (omega (arith, long, c.if-place-parts.false)) _ _ _ _ _ (fits b g.met.C.Compression.blocked).0 data_is (ap (λ s. s.ciphertext) c.cut-parts.ensures) (ap (λ s. s.tag) c.cut-parts.ensures) c.open.ensures.answer c.open.ensures.message in
    record { answer = both.0; place = both.1 }
