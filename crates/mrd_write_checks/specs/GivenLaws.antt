-- What judging the given bytes finds, one law for each place in the order of checks.
-- Assumes nothing.
use Rattle.std.specs.Prelude.{ℕ, ◌+◌, ◌-◌, ◌*◌, ◌≤◌, ◌<◌, ◌≡◌, refl, true, false, not, List, [], ◌∷◌, ◌++◌, ltb, length, Result, Ok, Err, IsErrAnd}
use native.Mathlib.Omega.{arith}
use Rattle.std.proofs.Common.{sym, ap, ◌∙◌, lt-ltb, le-ltb, eq-eqb, ne_eqb}
use Rattle.mrd_numbers.specs.Little.{to_bytes}
use Rattle.mrd_format.specs.declared.rules.Layout.{Layout}
use Rattle.mrd_format.specs.declared.kind.Kind.{Kind}
use Rattle.mrd_format.specs.declared.kind.Kind.TheVariants.{ConfigurationText, HeaderText, Close, Text, Acquisition, Image, Waveform}
use Rattle.mrd_format.specs.declared.refusal.Refusal.{Refusal}
use Rattle.mrd_format.specs.Refusals.{number_of, number-not-zero}
use Rattle.mrd_logic.specs.Answer.{answered, number}
use Rattle.mrd_logic.specs.AnswerLaws.{answered-not-number}
use Rattle.mrd_logic.specs.Checks.{Check, ◌when◌, first, unless}
use Rattle.mrd_logic.specs.CheckLaws.{numbered, numbered-append, numbered-without, first_next, unless-stops, unless-passed, unless-fault}
use Rattle.mrd_format.specs.OwnCheckLaws.{own-numbered}
use Rattle.mrd_format.specs.Acquisition as acquisition
use Rattle.mrd_format.specs.Image as image
use Rattle.mrd_format.specs.Waveform as waveform
use Rattle.mrd_format.specs.Waveform.{cleared}
use Rattle.mrd_format.specs.Kinds.{form_of, header_size}
use Rattle.mrd_format.specs.Parts as part
use Rattle.mrd_format.proofs.HeaderLaws.{whole-settled, acquisition-lawful}
use Rattle.mrd_format.proofs.WaveformLaws.{same-checks, cleared-fields}
use Rattle.mrd_format.specs.Headers.{settled}
use Rattle.mrd_format.proofs.ImageLaws.{agree-checks, made-agrees}
use Rattle.mrd_format.specs.Sizes.{capped}
use Rattle.mrd_format.specs.Message.{limit, own_checks, body_size, size_of}
use Rattle.mrd_write_checks.specs.declared.lengths.Lengths.{Lengths}
use Rattle.mrd_write_checks.specs.Sized.{sized_answer, text_sized, sized_by, image_size}
use Rattle.mrd_write_checks.specs.WriteChecks.{length_in, counts, given_fixed, of_writer, given_own_checks, given_size, part_lengths, due_lengths, same_lengths, sized_checks, given_checks, judged_meaning, judged}

-- where a number is answered, no check refused
pub unless-answered : (f z : ℕ) {y : ℕ} → unless f number (answered z) ≡ answered y → (f ≡ 0) × (z ≡ y)
unless-answered f z e =
    let p = unless-passed f number (answered z) (λ n q. answered-not-number (sym q)) e in
    (p.0, cc p.1)

-- where one of some checks refuses, it decides among more
pub unless-number : (cs ds : List Check) (y z : ℕ) {x : ℕ} → unless (first cs) number (answered y) ≡ number x →
    unless (first (cs ++ ds)) number (answered z) ≡ number x
unless-number cs ds y z e =
    let p = unless-fault (first cs) number (answered y) answered-not-number e in
    unless-stops cs ds number (answered z) refl p.1 ∙ p.0

-- a refusal that is passed on keeps its number
pub judged-passed_on : (r : Result ℕ Refusal) (e : Refusal) → IsErrAnd r (λ x. x ≡ e) → judged_meaning r ≡ number (number_of e)
judged-passed_on (Ok z) e p = absurd p
judged-passed_on (Err x) e p = ap (λ (r : Refusal). number (number_of r)) p

-- no check has the number 0
sized-numbered : (k : Kind) (h name : List ℕ) (n : Lengths) → numbered (sized_checks k h name n) ≡ true
unfolding sized_checks given_own_checks
sized-numbered k h name n =
    let own = own_checks k (given_fixed k h name n) in
    numbered-append (of_writer own) _ (numbered-without _ own (own-numbered k (given_fixed k h name n))) refl

pub given-numbered : (k : Kind) (h name : List ℕ) (n : Lengths) → numbered (given_checks k h name n) ≡ true
unfolding given_checks
given-numbered k h name n = numbered-append (sized_checks k h name n) _ (sized-numbered k h name n) refl

-- a header that has not its kind's length
pub judged-header : (k : Kind) (h name : List ℕ) (n : Lengths) → (length h ≡ header_size k → ⊥) → judged k h name n ≡ number 3
unfolding judged given_checks
judged-header k h name n d = rw (ne_eqb _ _ d)

-- and one that has: checks 4 to 10 decide, and then 18
module _ (k : Kind) (h name : List ℕ) (n : Lengths) (e : length h ≡ header_size k) where
  pub judged-refused : {x : ℕ} → sized_answer k h name n ≡ number x → judged k h name n ≡ number x
  unfolding judged given_checks sized_answer
  judged-refused p = rw (eq-eqb _ _ e) (unless-number (sized_checks k h name n) _ (given_size k h n) (given_size k h n) p)

  pub judged-sized : {z : ℕ} → sized_answer k h name n ≡ answered z →
      judged k h name n ≡ unless (first ((18 when not (same_lengths n (due_lengths k h n))) ∷ [])) number (answered z)
  unfolding judged given_checks sized_answer
  judged-sized p =
      let d = unless-answered (first (sized_checks k h name n)) (given_size k h n) p in
      rw (eq-eqb _ _ e, first_next (sized_checks k h name n) _ (sized-numbered k h name n) d.0, d.1)

  pub judged-same : {z : ℕ} → sized_answer k h name n ≡ answered z → same_lengths n (due_lengths k h n) ≡ true → judged k h name n ≡ answered z
  judged-same p s = judged-sized p ∙ rw s

  pub judged-differ : {z : ℕ} → sized_answer k h name n ≡ answered z → same_lengths n (due_lengths k h n) ≡ false → judged k h name n ≡ number 18
  judged-differ p s = judged-sized p ∙ rw s

-- the size answered is the message's
pub sized-size : (k : Kind) (h name : List ℕ) (n : Lengths) {z : ℕ} → sized_answer k h name n ≡ answered z → z ≡ given_size k h n
unfolding sized_answer
sized-size k h name n e = sym (unless-answered (first (sized_checks k h name n)) (given_size k h n) e).1

-- a text over the limit, and one within it
pub text-long : (z : ℕ) → 268435450 < z → text_sized z ≡ number 10
unfolding text_sized
text-long z l = let over : limit < 6 + z = omega arith in rw (lt-ltb limit (6 + z) over)

pub text-sound : (z : ℕ) → z ≤ 268435450 → text_sized z ≡ answered (6 + z)
unfolding text_sized
text-sound z l = let within : 6 + z ≤ limit = omega arith in rw (le-ltb limit (6 + z) within)

-- a message of y bytes with the own checks cs: one of them refuses, or check 10 decides
module _ (cs : List Check) (y : ℕ) where
  pub own-decides : (x : ℕ) → first cs ≡ x → (x ≡ 0 → ⊥) → sized_by cs y ≡ number x
  unfolding sized_by
  own-decides x e n = unless-stops cs _ number (answered y) e n

  pub own-refused : (r : Refusal) → first cs ≡ number_of r → sized_by cs y ≡ number (number_of r)
  own-refused r e = own-decides (number_of r) e (number-not-zero r)

  module _ (counted : numbered cs ≡ true) (own : first cs ≡ 0) where
    limited : sized_by cs y ≡ unless (first ((10 when ltb limit y) ∷ [])) number (answered y)
    unfolding sized_by
    limited = rw (first_next cs _ counted own)

    pub over-limit : (z : ℕ) → capped z ≡ capped y → limit < z → sized_by cs y ≡ number 10
    over-limit z e h = let over : limit < y = omega arith in limited ∙ rw (lt-ltb _ _ over)

    pub within-limit : (z : ℕ) → capped z ≡ capped y → z ≤ limit → sized_by cs y ≡ answered z
    within-limit z e h = let same : y ≡ z = omega arith in limited ∙ rw (same, le-ltb _ _ h)

-- what the kinds share: a message that goes by its text, by nothing, and by its fixed part, which has no name
pub sized-text : (h name : List ℕ) (n : Lengths) →
    (sized_answer ConfigurationText h name n ≡ text_sized n.text) ×
    ((sized_answer HeaderText h name n ≡ text_sized n.text) × ((sized_answer Text h name n ≡ text_sized n.text) × Unit {0}))
unfolding sized_answer sized_checks given_own_checks own_checks text_sized given_size due_lengths
sized-text h name n =
    let size : 6 + (n.text + 0) ≡ 6 + n.text = omega arith in
    let same = ap (λ (z : ℕ). unless (first ((10 when ltb limit z) ∷ [])) number (answered z)) size in
    (same, (same, (same, tt)))

pub sized_close : (h name : List ℕ) (n : Lengths) → sized_answer Close h name n ≡ answered 2
unfolding sized_answer sized_checks given_own_checks own_checks given_size due_lengths
sized_close h name n = refl

pub sized-fixed : (k : Kind) (h name : List ℕ) (n : Lengths) {cs : List Check} {z : ℕ} → counts part.name (form_of k).fixed_segments ≡ false →
    of_writer (own_checks k (given_fixed k h name n)) ≡ cs → given_size k h n ≡ z → sized_answer k h name n ≡ sized_by cs z
unfolding sized_answer sized_checks given_own_checks sized_by
sized-fixed k h name n nameless own size = rw (nameless, own, size)

pub sized-acquisition : (h name : List ℕ) (n : Lengths) → length h ≡ header_size Acquisition →
    sized_answer Acquisition h name n ≡ sized_by (own_checks Acquisition h) (size_of Acquisition h)
unfolding given_fixed given_size due_lengths size_of body_size own_checks acquisition.checks
sized-acquisition h name n e =
    let same = whole-settled (length_in n) 340 acquisition.cells h refl acquisition-lawful e in
    sized-fixed Acquisition h name n refl (ap acquisition.checks same) (omega arith)

pub sized-waveform : (l : Layout) (h name : List ℕ) (n : Lengths) → length h ≡ header_size (Waveform l) →
    sized_answer (Waveform l) h name n ≡ sized_by (own_checks (Waveform l) h) (size_of (Waveform l) h)
unfolding given_fixed given_size due_lengths size_of body_size own_checks waveform.checks cleared
sized-waveform l h name n e =
    let same = same-checks l (cleared l h) h (cleared-fields l h e) in
    sized-fixed (Waveform l) h name n refl same (omega arith)

pub sized_image : (h name : List ℕ) (n : Lengths) → length h ≡ header_size Image →
    sized_answer Image h name n ≡ sized_by (image.header_checks h) (image_size h n.attributes)
unfolding given_fixed given_size due_lengths own_checks image.checks image.header_checks
sized_image h name n e =
    let x = to_bytes 8 n.attributes in
    sized-fixed Image h name n refl (agree-checks (settled (length_in n) image.cells h ++ x) h (made-agrees (length_in n) h x e)) (omega arith)

-- the lengths that are due, by the size z of the message
module _ (k : Kind) (h : List ℕ) (n : Lengths) {z : ℕ} (whole : z ≡ given_size k h n) where
  pub due-acquisition : k ≡ Acquisition → (342 + acquisition.trajectory_size h ≤ z) ×
      (part_lengths 0 0 (acquisition.trajectory_size h) (z - 342 - acquisition.trajectory_size h) 0 0 0 ≡ due_lengths k h n)
  unfolding given_size due_lengths
  due-acquisition e =
      let t = acquisition.trajectory_size h in
      let c = acquisition.get acquisition.active-channels h * acquisition.channel_size h in
      let size : z ≡ given_size Acquisition h n = rw e at whole in
      let rest : z - 342 - t ≡ c = omega arith in
      (omega arith, rw e (ap (λ (s : ℕ). part_lengths 0 0 t s 0 0 0) rest))

  pub due-image : k ≡ Image → (208 + n.attributes ≤ z) × (part_lengths 0 0 0 0 n.attributes (z - 208 - n.attributes) 0 ≡ due_lengths k h n)
  unfolding given_size due_lengths
  due-image e =
      let size : z ≡ given_size Image h n = rw e at whole in
      let rest : z - 208 - n.attributes ≡ image.pixels_size h = omega arith in
      (omega arith, rw e (ap (λ (s : ℕ). part_lengths 0 0 0 0 n.attributes s 0) rest))

  pub due-waveform : {l : Layout} → k ≡ Waveform l →
      (2 + waveform.header_bytes l ≤ z) × (part_lengths 0 0 0 0 0 0 (z - (2 + waveform.header_bytes l)) ≡ due_lengths k h n)
  unfolding given_size due_lengths
  due-waveform {l} e =
      let size : z ≡ given_size (Waveform l) h n = rw e at whole in
      let rest : z - (2 + waveform.header_bytes l) ≡ waveform.body_size l h = omega arith in
      (omega arith, rw e (ap (λ (s : ℕ). part_lengths 0 0 0 0 0 0 s) rest))
