-- What judging by the rules finds, by what judging by the plain profile does: the same fault; or the message, of which its texts then decide.
-- Assumes nothing.
use Rattle.std.specs.Prelude.{ℕ, zero, suc, ◌≡◌, refl, true, List, ◌++◌, take, Option, Some, None}
use Rattle.std.proofs.Common.{suc-ne-zero, sym, ◌∙◌, append_assoc}
use Rattle.std.proofs.Math.Path.{ap}
use Rattle.mrd_logic.specs.Checks.{Check, first, unless}
use Rattle.mrd_logic.specs.CheckLaws.{numbered, numbered-append, first_next, first_pads, first_decides, unless-refused, unless-passed, unless-fault}
use Rattle.mrd_format.specs.declared.kind.Kind.{Kind}
use Rattle.mrd_format.specs.declared.rules.Profile.{Profile}
use Rattle.mrd_format.specs.declared.rules.Profile.TheVariants.{Plain}
use Rattle.mrd_format.specs.declared.rules.Rules.{Rules}
use Rattle.mrd_format.specs.Kinds.{identified}
use Rattle.mrd_format.specs.OwnCheckLaws.{own-numbered}
use Rattle.mrd_format.specs.Message.{id_at, fixed_part, own_checks, size_of, message_at}
use Rattle.mrd_format.specs.Profiles.{rules_by, encoded}
use Rattle.mrd_cursor.specs.declared.cursor.Cursor.{Cursor}
use Rattle.mrd_texts.specs.Whole.{TakenWhole}
use Rattle.mrd_judge.specs.declared.sort.Sort.{Sort}
use Rattle.mrd_judge.specs.declared.sort.Sort.TheVariants.{ConfigurationName, ConfigurationText, HeaderText, Close, Text, Acquisition, Image, Waveform}
use Rattle.mrd_judge.specs.Sorts.{kind_in}
use Rattle.mrd_judge.specs.Stages.{front_checks, id_checks, fixed_checks, size_checks, text_checks, checks_as}
use Rattle.mrd_judge.specs.Judge.{faulty, whole, passes, refused_by, sorted, judge_as, judge_by, judge}
use Rattle.mrd_judge.specs.WholeLaws.{judge-whole, not-both, found-whole, found-faulty, well_formed}

-- kinds do not go by the profile
kind_alike : (rules : Rules) (o : Sort) → kind_in (rules_by rules.layout Plain) o ≡ kind_in rules o
kind_alike rules ConfigurationName = refl
kind_alike rules ConfigurationText = refl
kind_alike rules HeaderText = refl
kind_alike rules Close = refl
kind_alike rules Text = refl
kind_alike rules Acquisition = refl
kind_alike rules Image = refl
kind_alike rules Waveform = refl

-- judging by the plain profile is judging by the rules with that profile
plainly : (rules : Rules) (c : Cursor) (t : List ℕ) → judge_by Plain rules c t ≡ judge (rules_by rules.layout Plain) c t
unfolding judge_by judge identified
plainly rules c t = refl

-- and where it is theirs, by them
pub judged-plain : (rules : Rules) (c : Cursor) (t : List ℕ) → rules.profile ≡ Plain → judge_by Plain rules c t ≡ judge rules c t
unfolding judge_by judge
judged-plain rules c t e = rw e

-- the checks but the last, which are numbered, and the last
abbrev sized_as : Kind → Cursor → List ℕ → List Check
sized_as k c t = front_checks c t ++ (id_checks (Some k) c ++ (fixed_checks k t ++ size_checks (size_of k (fixed_part k t)) t))

sized-numbered : (k : Kind) (c : Cursor) (t : List ℕ) → numbered (sized_as k c t) ≡ true
unfolding front_checks id_checks fixed_checks size_checks
sized-numbered k c t =
    numbered-append (own_checks k (fixed_part k t)) (size_checks (size_of k (fixed_part k t)) t) (own-numbered k (fixed_part k t)) refl

checks-split : (p : Profile) (k : Kind) (c : Cursor) (t : List ℕ) → checks_as p (Some k) c t ≡ sized_as k c t ++ text_checks p k (message_at k t)
unfolding checks_as text_checks
checks-split p k c t =
    sym (append_assoc (front_checks c t) _ _ ∙ ap (λ (l : List Check). front_checks c t ++ l)
    (append_assoc (id_checks (Some k) c) _ _ ∙ ap (λ (l : List Check). id_checks (Some k) c ++ l) (append_assoc (fixed_checks k t) _ _)))

-- which in the plain profile says nothing
plain-first : (k : Kind) (c : Cursor) (t : List ℕ) → first (checks_as Plain (Some k) c t) ≡ first (sized_as k c t)
unfolding text_checks encoded
plain-first k c t = ap first (checks-split Plain k c t) ∙ first_pads (sized_as k c t) (text_checks Plain k (message_at k t)) refl

-- a fault stays
stays : (p : Profile) (i : Option Kind) (c : Cursor) (t : List ℕ) {x : ℕ} → judge_as Plain i c t ≡ faulty x → judge_as p i c t ≡ faulty x
unfolding judge_as checks_as
stays p None c t e = e
stays p (Some k) c t e =
    let cs = sized_as k c t in
    let it = whole k (size_of k (fixed_part k t)) in
    let u = unless-fault (first cs) faulty it (λ w. not-both (sym w)) (ap (λ (n : ℕ). unless n faulty it) (sym (plain-first k c t)) ∙ e) in
    let decides : first (checks_as p (Some k) c t) ≡ first cs =
    ap first (checks-split p k c t) ∙ first_decides cs (text_checks p k (message_at k t)) refl u.1 in
    ap (λ (n : ℕ). unless n faulty it) decides ∙ unless-refused (first cs) faulty it u.1 ∙ u.0

-- of a whole message the texts decide
text_decides : (p : Profile) (i : Option Kind) (c : Cursor) (t : List ℕ) {k : Kind} {z : ℕ} → judge_as Plain i c t ≡ whole k z →
    judge_as p i c t ≡ unless (first (text_checks p k (take z t))) faulty (whole k z)
unfolding judge_as checks_as
text_decides p None c t e = absurd (not-both e)
text_decides p (Some j) c t {k} {z} e =
    let cs = sized_as j c t in
    let it = whole j (size_of j (fixed_part j t)) in
    let u = unless-passed (first cs) faulty it (λ f. not-both) (ap (λ (n : ℕ). unless n faulty it) (sym (plain-first j c t)) ∙ e) in
    let kind : j ≡ k = cc u.1 in
    let size : size_of j (fixed_part j t) ≡ z = cc u.1 in
    let last : first (checks_as p (Some j) c t) ≡ first (text_checks p j (message_at j t)) =
    ap first (checks-split p j c t) ∙ first_next cs (text_checks p j (message_at j t)) (sized-numbered j c t) u.0 in
    rw (← kind, ← size) (ap (λ (n : ℕ). unless n faulty it) last)

module _ (rules : Rules) (c : Cursor) (t : List ℕ) where
  pub faulty-too : {x : ℕ} → refused_by x ≡ sorted (judge_by Plain rules c t) → judge rules c t ≡ faulty x
  unfolding judge_by judge
  faulty-too {x} e =
      let fault = found-faulty (rules_by rules.layout Plain) c t (e ∙ ap sorted (plainly rules c t)) in
      stays rules.profile (identified rules (id_at t)) c t (plainly rules c t ∙ fault)

  module _ {o : Sort} {z : ℕ} (e : passes o z ≡ sorted (judge_by Plain rules c t)) where
    is_whole : judge (rules_by rules.layout Plain) c t ≡ whole (kind_in rules o) z
    is_whole =
        found-whole (rules_by rules.layout Plain) c t (e ∙ ap sorted (plainly rules c t)) ∙ ap (λ (k : Kind). whole k z) (kind_alike rules o)

    decided : judge rules c t ≡ unless (first (text_checks rules.profile (kind_in rules o) (take z t))) faulty (whole (kind_in rules o) z)
    unfolding judge_by judge
    decided = text_decides rules.profile (identified rules (id_at t)) c t (plainly rules c t ∙ is_whole)

    -- its bytes have its kind's size
    pub taken : TakenWhole (kind_in rules o) z t
    taken =
        let w = judge-whole (rules_by rules.layout Plain) c t is_whole in
        let m = well_formed c t w in
        record { fits = w.fits; taken = record { size = sym m.whole; small = rw (← m.whole) m.small } }

    pub text-passes : first (text_checks rules.profile (kind_in rules o) (take z t)) ≡ 0 → judge rules c t ≡ whole (kind_in rules o) z
    text-passes x = decided ∙ rw x

    pub text-refuses : {f : ℕ} → first (text_checks rules.profile (kind_in rules o) (take z t)) ≡ f → (f ≡ 0 → ⊥) → judge rules c t ≡ faulty f
    text-refuses {f} x n = decided ∙ rw x (unless-refused f faulty (whole (kind_in rules o) z) n)

    -- where no message is refused, it is whole by the rules, too
    pub never-faulty : ((f : ℕ) → judge rules c t ≡ faulty f → ⊥) → judge rules c t ≡ whole (kind_in rules o) z
    never-faulty never = by (first (text_checks rules.profile (kind_in rules o) (take z t))) refl
      where
        by : (n : ℕ) → first (text_checks rules.profile (kind_in rules o) (take z t)) ≡ n → judge rules c t ≡ whole (kind_in rules o) z
        by zero x = text-passes x
        by (suc n) x = absurd (never (suc n) (text-refuses x (suc-ne-zero n)))
