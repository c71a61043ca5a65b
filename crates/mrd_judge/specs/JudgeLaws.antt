-- What judging a message finds, stage by stage: where the stages before it passed, a stage that refuses decides.
-- Assumes nothing.
use Rattle.std.specs.Prelude.{ℕ, zero, suc, ◌+◌, ◌≤◌, ◌<◌, ◌≡◌, true, false, List, [], ◌∷◌, ◌++◌, take, drop, Option, Some, None, Result, Ok, Err, IsErrAnd}
use native.Mathlib.Omega.{arith}
use Rattle.std.proofs.Math.Decide.{dec_le}
use Rattle.std.proofs.Math.Path.{refl, sym, ap}
use Rattle.std.proofs.Common.{◌∙◌, length-drop, length-take-le}
use borrow.Author.Tests.{eqb-false, lt-ltb, le-ltb, ltb-false}
use Rattle.std.proofs.Math.ListN.{length}
use Rattle.mrd_format.specs.declared.kind.Kind.{Kind}
use Rattle.mrd_format.specs.declared.rules.Profile.{Profile}
use Rattle.mrd_format.specs.declared.rules.Profile.TheVariants.{Plain, Strict}
use Rattle.mrd_format.specs.Kinds.{fixed_size}
use Rattle.mrd_format.specs.OwnCheckLaws.{own-numbered}
use Rattle.mrd_format.specs.Message.{limit, fixed_part, size_of, message_at}
use Rattle.mrd_format.specs.Sizes.{capped}
use Rattle.mrd_format.specs.Content.{record_of}
use Rattle.mrd_format.specs.Profiles.{texts_in, encoded}
use Rattle.mrd_format.specs.ProfileLaws.{textless, textless-encoded, encoded-exactly}
use Rattle.mrd_logic.specs.Checks.{Check, first, unless}
use Rattle.mrd_logic.specs.CheckLaws.{first-passed, first_stops, first_next, first-same, numbered, unless-stops}
use Rattle.mrd_cursor.specs.declared.cursor.Cursor.{Cursor}
use Rattle.mrd_judge.specs.Stages.{front_checks, id_checks, fixed_checks, size_checks, text_checks, id, fixed, size, text, checks_of, checks_as}
use Rattle.mrd_format.specs.declared.refusal.Refusal.{Refusal}
use Rattle.mrd_format.specs.Refusals.{number_of}
use Rattle.mrd_judge.specs.declared.stages.Whole.{Whole}
use Rattle.mrd_judge.specs.declared.stages.Message.{Message}
use Rattle.mrd_judge.specs.Judge.{Judged, faulty, whole, refused_by, judgement_meaning, message_meaning, judge_as, judge_body}

-- a fixed part that fits is as long as its kind's
pub fixed-long : (k : Kind) (t : List ℕ) → 2 + fixed_size k ≤ length t → length (fixed_part k t) ≡ fixed_size k
unfolding fixed_part
fixed-long k t h = length-take-le (fixed_size k) (drop 2 t) (simp length-drop (omega arith))

-- the judgement that the first of some checks leads to
abbrev judged_by : Option Kind → ℕ → List ℕ → Judged
judged_by None f t = faulty f
judged_by (Some k) f t = unless f faulty (whole k (size_of k (fixed_part k t)))

judged-by : (p : Profile) (i : Option Kind) (c : Cursor) (t : List ℕ) → judge_as p i c t ≡ judged_by i (first (checks_as p i c t)) t
unfolding judge_as
judged-by p None c t = refl
judged-by p (Some k) c t = refl

-- checks that refuse decide, with a kind or without
stopped : (i : Option Kind) (t : List ℕ) (cs ds : List Check) {f : ℕ} → first cs ≡ f → (f ≡ 0 → ⊥) → judged_by i (first (cs ++ ds)) t ≡ faulty f
stopped None t cs ds {f = zero} e n = absurd (n refl)
stopped None t cs ds {f = suc f} e n = ap faulty (first_stops cs ds e)
stopped (Some k) t cs ds e n = unless-stops cs ds faulty (whole k (size_of k (fixed_part k t))) e n

front-numbered : (c : Cursor) (t : List ℕ) → numbered (front_checks c t) ≡ true
unfolding front_checks
front-numbered c t = refl

id-numbered : (i : Option Kind) (c : Cursor) → numbered (id_checks i c) ≡ true
unfolding id_checks
id-numbered None c = refl
id-numbered (Some k) c = refl

fixed-numbered : (k : Kind) (t : List ℕ) → numbered (fixed_checks k t) ≡ true
unfolding fixed_checks
fixed-numbered k t = own-numbered k (fixed_part k t)

size-numbered : (z : ℕ) (t : List ℕ) → numbered (size_checks z t) ≡ true
unfolding size_checks
size-numbered z t = refl

-- where the front passed, an id has two bytes
pub front-two : (c : Cursor) (t : List ℕ) → 0 < length t → first (front_checks c t) ≡ 0 → 2 ≤ length t
unfolding front_checks
front-two c t h e =
    let other : length t ≡ 1 → ⊥ = eqb-false (length t) 1 (first-passed (front_checks c t) refl e).1.1.0 in
    omega (arith, other)

module _ (p : Profile) (i : Option Kind) (c : Cursor) (t : List ℕ) where
  pub front-stops : {f : ℕ} → first (front_checks c t) ≡ f → (f ≡ 0 → ⊥) → judge_as p i c t ≡ faulty f
  unfolding checks_as
  front-stops e n = judged-by p i c t ∙ stopped i t (front_checks c t) (checks_of p (id ∷ fixed ∷ size ∷ text ∷ []) i c t) e n

  -- where the front passed, the id
  module _ (front : first (front_checks c t) ≡ 0) where
    front-passed : judge_as p i c t ≡ judged_by i (first (id_checks i c ++ checks_of p (fixed ∷ size ∷ text ∷ []) i c t)) t
    unfolding checks_as
    front-passed =
        judged-by p i c t ∙ ap (λ (f : ℕ). judged_by i f t)
        (first_next (front_checks c t) (checks_of p (id ∷ fixed ∷ size ∷ text ∷ []) i c t) (front-numbered c t) front)

    pub id-stops : {f : ℕ} → first (id_checks i c) ≡ f → (f ≡ 0 → ⊥) → judge_as p i c t ≡ faulty f
    id-stops e n = front-passed ∙ stopped i t (id_checks i c) (checks_of p (fixed ∷ size ∷ text ∷ []) i c t) e n

-- an id that no kind has stops
pub unknown_stops : (p : Profile) (c : Cursor) (t : List ℕ) {f : ℕ} → first (front_checks c t) ≡ 0 → first (id_checks None c) ≡ f →
    judge_as p None c t ≡ faulty f
unfolding id_checks
unknown_stops p c t front e = id-stops p None c t front e (λ z. let never : ◌≡◌ {A = ℕ} 2 0 = e ∙ z in omega arith)

-- where the front and the id passed, the last three stages
pub id-passed : (p : Profile) (k : Kind) (c : Cursor) (t : List ℕ) → first (front_checks c t) ≡ 0 → first (id_checks (Some k) c) ≡ 0 →
    judge_as p (Some k) c t ≡ judge_body p k t
unfolding judge_body size_checks text_checks
id-passed p k c t front e =
    front-passed p (Some k) c t front ∙
    ap (λ (f : ℕ). judged_by (Some k) f t) (first_next (id_checks (Some k) c) (checks_of p (fixed ∷ size ∷ text ∷ []) (Some k) c t) (id-numbered (Some k) c) e)

-- a size passes where it is within the limit and ends within t, and not otherwise
module _ (z : ℕ) (t : List ℕ) where
  pub size-large : limit < z → first (size_checks z t) ≡ 0 → ⊥
  unfolding size_checks
  size-large over e = let small : z ≤ limit = ltb-false limit z (first-passed (size_checks z t) refl e).0 in omega arith

  pub size-short : length t < z → first (size_checks z t) ≡ 0 → ⊥
  unfolding size_checks
  size-short cut e = let fits : z ≤ length t = ltb-false (length t) z (first-passed (size_checks z t) refl e).1.0 in omega arith

  pub size-over : limit < z → first (size_checks z t) ≡ 10
  unfolding size_checks
  size-over over = rw (lt-ltb _ _ over)

  pub size-cut : z ≤ limit → length t < z → first (size_checks z t) ≡ 11
  unfolding size_checks
  size-cut small cut = simp (le-ltb _ _ small, lt-ltb _ _ cut)

  pub size_fits : z ≤ limit → z ≤ length t → first (size_checks z t) ≡ 0
  unfolding size_checks
  size_fits small fits = simp (le-ltb _ _ small, le-ltb _ _ fits)

-- the checks of a size tell a capped size from no other
capped-size : (z : ℕ) (t : List ℕ) → first (size_checks (capped z) t) ≡ first (size_checks z t)
unfolding size_checks
capped-size z t =
    elim (dec_le z limit) [
      | yes h ↦ let same : capped z ≡ z = omega arith in rw same
      | no h ↦ let over : limit < z = omega arith in let capped-over : limit < capped z = omega arith in simp (lt-ltb _ _ over, lt-ltb _ _ capped-over)
    ]

-- a size that passed, capped, is the message's
pub size_true : (y z : ℕ) (t : List ℕ) → z ≡ capped y → first (size_checks z t) ≡ 0 → (z ≤ limit) × ((z ≤ length t) × (y ≡ z))
unfolding size_checks
size_true y z t sized q =
    let passed = first-passed (size_checks z t) refl q in
    let small : z ≤ limit = ltb-false limit z passed.0 in
    (small, (ltb-false (length t) z passed.1.0, omega arith))

-- a fixed part that passed is there
pub fixed-fits : (k : Kind) (t : List ℕ) → first (fixed_checks k t) ≡ 0 → 2 + fixed_size k ≤ length t
unfolding fixed_checks
fixed-fits k t e = ltb-false (length t) (2 + fixed_size k) (first-passed (fixed_checks k t) (fixed-numbered k t) e).0

module _ (p : Profile) (k : Kind) (t : List ℕ) where
  pub fixed-stops : {f : ℕ} → first (fixed_checks k t) ≡ f → (f ≡ 0 → ⊥) → judge_body p k t ≡ faulty f
  unfolding judge_body
  fixed-stops e n = stopped (Some k) t (fixed_checks k t) (size_checks (size_of k (fixed_part k t)) t ++ text_checks p k (message_at k t)) e n

  -- where the fixed part passed, the size decides
  module _ (e : first (fixed_checks k t) ≡ 0) where
    module _ {z : ℕ} (sized : z ≡ capped (size_of k (fixed_part k t))) where
      by_size : judge_body p k t ≡ unless (first (size_checks z t ++ text_checks p k (message_at k t))) faulty (whole k (size_of k (fixed_part k t)))
      unfolding judge_body
      by_size =
          let y = size_of k (fixed_part k t) in
          let same : first (size_checks z t) ≡ first (size_checks y t) = rw sized (capped-size y t) in
          ap (λ (f : ℕ). judged_by (Some k) f t)
          (first_next (fixed_checks k t) (size_checks y t ++ text_checks p k (message_at k t)) (fixed-numbered k t) e ∙
          sym (first-same (size_checks z t) (size_checks y t) (text_checks p k (message_at k t)) (size-numbered z t) (size-numbered y t) same))

      pub size-stops : {f : ℕ} → first (size_checks z t) ≡ f → (f ≡ 0 → ⊥) → judge_body p k t ≡ faulty f
      size-stops {f} q n =
          by_size ∙ unless-stops (size_checks z t) (text_checks p k (message_at k t)) faulty (whole k (size_of k (fixed_part k t))) q n

      -- where the size passed, it is the message's, and the texts decide
      module _ (q : first (size_checks z t) ≡ 0) where
        by-texts : judge_body p k t ≡ unless (first (text_checks p k (take z t))) faulty (whole k z)
        by-texts = by_size ∙ rw (first_next (size_checks z t) (text_checks p k (message_at k t)) (size-numbered z t) q, (size_true _ z t sized q).1.1)

-- the plain profile asks nothing
pub plain_passes : (k : Kind) (m : List ℕ) → first (text_checks Plain k m) ≡ 0
unfolding text_checks encoded
plain_passes k m = refl

-- so a message whose size passed is whole by it
pub size-passed : (k : Kind) (t : List ℕ) → first (fixed_checks k t) ≡ 0 → {z : ℕ} → z ≡ capped (size_of k (fixed_part k t)) →
    first (size_checks z t) ≡ 0 → judge_body Plain k t ≡ whole k z
size-passed k t e {z} sized q = by-texts Plain k t e sized q ∙ rw (plain_passes k (take z t))

-- in the strict one the texts decide
module _ (k : Kind) (m : List ℕ) where
  pub texts-stop : encoded Strict (texts_in (record_of k m).parts) ≡ false → first (text_checks Strict k m) ≡ 21
  unfolding text_checks
  texts-stop x = rw x

  pub texts-pass : encoded Strict (texts_in (record_of k m).parts) ≡ true → first (text_checks Strict k m) ≡ 0
  unfolding text_checks
  texts-pass x = rw x

-- and a kind that has none passes
pub textless-passes : (k : Kind) → textless k ≡ true → (m : List ℕ) → first (text_checks Strict k m) ≡ 0
textless-passes k e m = texts-pass k m ((encoded-exactly Strict _).1 (textless-encoded Strict k e m))

-- a refusal that is passed on is the message's
pub refusal-passed_on : (j : Result Whole Refusal) (e : Refusal) → IsErrAnd j (λ x. x ≡ e) → judgement_meaning j ≡ refused_by (number_of e)
refusal-passed_on (Ok m) e p = absurd p
refusal-passed_on (Err x) e p = ap (λ (r : Refusal). refused_by (number_of r)) p

pub message-refusal-passed_on : (j : Result Message Refusal) (e : Refusal) → IsErrAnd j (λ x. x ≡ e) → message_meaning j ≡ faulty (number_of e)
message-refusal-passed_on (Ok m) e p = absurd p
message-refusal-passed_on (Err x) e p = ap (λ (r : Refusal). faulty (number_of r)) p
