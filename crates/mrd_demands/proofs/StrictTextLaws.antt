-- The strict profile (request E9): what it accepts and reads, beside the plain profile with the same layout.
-- Assumes nothing.
use Rattle.std.specs.Prelude.{ℕ, ◌≡◌, refl, true, ◌↔◌, List, [], ◌∷◌, Option, Some, None}
use Rattle.std.proofs.Common.{arith, sym, ap, ◌∙◌}
use Rattle.mrd_logic.specs.Every.{Every, every_append}
use Rattle.mrd_logic.specs.Answer.{accepted, refused}
use Rattle.mrd_logic.specs.CheckLaws.{lacking, Never, lacking-each, never_first, fault-first}
use Rattle.mrd_format.specs.declared.kind.Kind.{Kind}
use Rattle.mrd_format.specs.declared.kind.Kind.TheVariants.{ConfigurationName, ConfigurationText, HeaderText, Close, Text, Acquisition, Image, Waveform}
use Rattle.mrd_format.specs.declared.rules.Layout.{Layout}
use Rattle.mrd_format.specs.declared.rules.Profile.TheVariants.{Plain, Strict}
use Rattle.mrd_format.specs.Kinds.{identified}
use Rattle.mrd_format.specs.Acquisition as acquisition
use Rattle.mrd_format.specs.Image as image
use Rattle.mrd_format.specs.Waveform as waveform
use Rattle.mrd_format.specs.Message.{id_at, fixed_part, own_checks}
use Rattle.mrd_format.specs.Content.{record_of}
use Rattle.mrd_format.specs.Profiles.{rules_by, encoded}
use Rattle.mrd_format.specs.WellFormed.{WellFormed}
use Rattle.mrd_cursor.specs.declared.cursor.Cursor.{Cursor}
use Rattle.mrd_judge.specs.Stages.{front_checks, id_checks, fixed_checks, size_checks, text_checks, checks_as}
use Rattle.mrd_stream.specs.Walk.{Trace, message, trace, walk, verdict, answer}
use Rattle.mrd_stream.specs.WalkLaws.{walk_end}
use Rattle.mrd_stream.specs.Places.{place}
use Rattle.mrd_stream.specs.Normal.{normal}
use Rattle.mrd_stream.specs.Index.{index, entries}
use Rattle.mrd_cut.specs.Walked.{Walks}
use Rattle.mrd_cut.specs.Walked.{ends, faults, meets}
use Rattle.mrd_cut.proofs.WalkedLaws.{walks, walk-well, refused-not-accepted}
use Rattle.mrd_cut.specs.Refused.{FaultAt}
use Rattle.mrd_cut.proofs.RefusedLaws.{refused_iff}
use Rattle.mrd_demands.specs.Records.{records_of, records}
use Rattle.mrd_demands.specs.StrictTexts.{TextsAreUtf8, ReadAlike}

-- the kinds do not go by the profile
same-kinds : (l : Layout) (id : ℕ) → identified (rules_by l Strict) id ≡ identified (rules_by l Plain) id
unfolding identified
same-kinds l id = refl

-- a message that is well formed in the strict profile is so in the plain one, of the same kind
abbrev loosened : {l : Layout} {m : List ℕ} → WellFormed (rules_by l Strict) m → WellFormed (rules_by l Plain) m
loosened {l} {m} w = record {
  kind = w.kind;
  known = sym (same-kinds l (id_at m)) ∙ w.known;
  sound = w.sound;
  small = w.small;
  whole = w.whole;
  encoded = tt;
}

-- and the other way where its texts are UTF-8
abbrev tightened : {l : Layout} {m : List ℕ} (w : WellFormed (rules_by l Plain) m) → TextsAreUtf8 (record_of w.kind m) → WellFormed (rules_by l Strict) m
tightened {l} {m} w texts = record {
  kind = w.kind;
  known = same-kinds l (id_at m) ∙ w.known;
  sound = w.sound;
  small = w.small;
  whole = w.whole;
  encoded = texts;
}

-- the texts that a strict walk passed are UTF-8
walk-texts : {l : Layout} {c : Cursor} {s : List ℕ} {r : Trace} → Walks (rules_by l Strict) c s r → Every TextsAreUtf8 (records_of r)
walk-texts ends = tt
walk-texts (faults e) = tt
walk-texts (meets w a n v) = (w.encoded, walk-texts v)

-- a strict walk to an accepted end is the plain walk
strict_walk : {l : Layout} {c : Cursor} {s : List ℕ} {r : Trace} {n : ℕ} → Walks (rules_by l Strict) c s r → verdict r ≡ accepted n →
    walk (rules_by l Plain) s 0 c ≡ r
strict_walk {l} (ends {c}) e = walk_end (rules_by l Plain) c
strict_walk (faults f) e = absurd (refused-not-accepted e)
strict_walk (meets {c} {m} {rest} w a n v) e =
    walk-well c m rest (loosened w) a n ∙ ap (λ (r : Trace). message c w.kind m r) (strict_walk v e)

-- and a plain one is the strict walk where every text that it passed is UTF-8
plain_walk : {l : Layout} {c : Cursor} {s : List ℕ} {r : Trace} {n : ℕ} → Walks (rules_by l Plain) c s r → verdict r ≡ accepted n →
    Every TextsAreUtf8 (records_of r) → walk (rules_by l Strict) s 0 c ≡ r
plain_walk {l} (ends {c}) e t = walk_end (rules_by l Strict) c
plain_walk (faults f) e t = absurd (refused-not-accepted e)
plain_walk (meets {c} {m} {rest} w a n v) e t =
    walk-well c m rest (tightened w t.0) a n ∙ ap (λ (r : Trace). message c w.kind m r) (plain_walk v e t.1)

module _ (l : Layout) (s : List ℕ) {n : ℕ} where
  -- a stream that the strict profile accepts is walked as in the plain one
  same-trace : answer (rules_by l Strict) s ≡ accepted n → trace (rules_by l Plain) s ≡ trace (rules_by l Strict) s
  unfolding answer trace
  same-trace e = strict_walk (walks (rules_by l Strict) s) e

  -- accepted in the strict profile is accepted in the plain one, with every text UTF-8
  strictly : answer (rules_by l Strict) s ≡ accepted n → (answer (rules_by l Plain) s ≡ accepted n) × Every TextsAreUtf8 (records (rules_by l Plain) s)
  unfolding answer records
  strictly e =
      let same = same-trace e in
      (rw same e, rw same (walk-texts (walks (rules_by l Strict) s)))

  loosely : answer (rules_by l Plain) s ≡ accepted n → Every TextsAreUtf8 (records (rules_by l Plain) s) → answer (rules_by l Strict) s ≡ accepted n
  unfolding answer records trace
  loosely e t = rw (plain_walk (walks (rules_by l Plain) s) e t) e

pub strict_iff : (l : Layout) (s : List ℕ) (n : ℕ) →
    (answer (rules_by l Strict) s ≡ accepted n) ↔ ((answer (rules_by l Plain) s ≡ accepted n) × Every TextsAreUtf8 (records (rules_by l Plain) s))
strict_iff l s n = (strictly l s, λ p. loosely l s p.0 p.1)

pub strict_reads : (l : Layout) (s : List ℕ) (n : ℕ) → answer (rules_by l Strict) s ≡ accepted n → ReadAlike (rules_by l Strict) (rules_by l Plain) s
unfolding answer place records normal index entries
strict_reads l s n e =
    let same = same-trace l s e in
    record { same-places = λ i. rw same; same-records = rw same; same-normal = rw same; same_index = rw same }

-- no message's own checks have the number 21
own-no_21 : (k : Kind) (h : List ℕ) → lacking 21 (own_checks k h) ≡ true
unfolding own_checks acquisition.checks image.checks image.header_checks waveform.checks
own-no_21 ConfigurationName h = refl
own-no_21 ConfigurationText h = refl
own-no_21 HeaderText h = refl
own-no_21 Close h = refl
own-no_21 Text h = refl
own-no_21 Acquisition h = refl
own-no_21 Image h = refl
own-no_21 (Waveform l) h = refl

-- and in the plain profile none refuses with it
no_21 : (i : Option Kind) (c : Cursor) (t : List ℕ) → Every (Never 21) (checks_as Plain i c t)
unfolding checks_as front_checks id_checks fixed_checks size_checks text_checks encoded
no_21 None c t = lacking-each 21 (checks_as Plain None c t) refl
no_21 (Some k) c t = (
  λ e. absurd (omega arith),
  (
    λ e. absurd (omega arith),
    (
      λ e. absurd (omega arith),
      (
        λ e. absurd (omega arith),
        (
          λ e. absurd (omega arith),
          every_append (Never 21) (own_checks k (fixed_part k t)) _ (lacking-each 21 (own_checks k (fixed_part k t)) (own-no_21 k (fixed_part k t)))
              (λ e. absurd (omega arith), (λ e. absurd (omega arith), (λ e. refl, tt))),
        ),
      ),
    ),
  ),
)

pub plain-no_21 : (l : Layout) (s : List ℕ) (n b : ℕ) → answer (rules_by l Plain) s ≡ refused 21 n b → ⊥
plain-no_21 l s n b e = let r = (refused_iff (rules_by l Plain) s 21 n b).0 e in by _ _ r.rest r.fault
  where
    by : (c : Cursor) (ks : List Kind) (t : List ℕ) → FaultAt (rules_by l Plain) 21 c ks t → ⊥
    by c ks [] f = let z : ◌≡◌ {A = ℕ} 21 13 = f.0 in omega arith
    by c ks (x ∷ t) f =
        let cs = checks_as Plain (identified (rules_by l Plain) (id_at (x ∷ t))) c (x ∷ t) in
        let none : ◌≡◌ {A = ℕ} 21 0 = never_first 21 cs (no_21 _ c (x ∷ t)) (fault-first cs f) in
        omega arith
