-- What is saved of a torn recording: what is kept, what the report says, and the records.
-- Assumes nothing.
use Rattle.std.specs.Prelude.{ℕ, ◌-◌, ◌≤◌, ◌<◌, ◌≡◌, Bool}
use Rattle.std.proofs.Math.Decide.{dec_le}
use Rattle.std.proofs.Math.Nat.{sub_self}
use Rattle.std.proofs.Common.{arith, sym, subst, ◌∙◌, inr, take_all, length-take-le}
use Rattle.std.proofs.Math.Path.{refl, ap, ap₂}
use Rattle.std.proofs.Math.Bool.{true, false}
use Rattle.std.proofs.Math.Logic.{inl}
use mathlib.Core.List.{List, [], ◌∷◌, ◌++◌}
use Rattle.std.proofs.Math.ListN.{length, take, length-append}
use Rattle.std.proofs.Math.Seq.{take_at}
use Rattle.mrd_logic.specs.Answer.{accepted, refused}
use Rattle.mrd_logic.specs.Choice.{pick}
use Rattle.mrd_logic.specs.Every.{Every, every_append}
use Rattle.mrd_logic.specs.Joined.{joined}
use Rattle.mrd_format.specs.declared.kind.Kind.TheVariants.{Close}
use Rattle.mrd_format.specs.declared.rules.Rules.{Rules}
use Rattle.mrd_format.specs.Content.{Record, record_of}
use Rattle.mrd_format.specs.WellFormed.{WellFormed}
use Rattle.mrd_stream.specs.Walk.{answer}
use Rattle.mrd_cut.specs.Cut.{Cut}
use Rattle.mrd_cut.specs.Each.{each_same, each-count, each_append, each_first}
use Rattle.mrd_cut.specs.Unique.{cut_unique}
use Rattle.mrd_cut.proofs.WalkedLaws.{met}
use Rattle.mrd_cut.specs.Accepted.{Acceptable}
use Rattle.mrd_cut.proofs.AcceptedLaws.{accepted-cut, cut-accepted}
use Rattle.mrd_salvage.specs.Salvage.{before, close_added, most_kept, kept, closing, salvaged, report}
use Rattle.mrd_salvage.proofs.KeptLaws.{kept-first, kept-front}
use Rattle.mrd_salvage.specs.Saved.{added_messages}
use Rattle.mrd_salvage.proofs.SavedLaws.{close_well, kept-added, kept-unadded, kept-well, saved, accepted-unadded, accepted-whole, accepted-count, accepted-unchanged, refused-counts}
use Rattle.mrd_salvage.proofs.LongestLaws.{tear, torn-bytes, torn-kept, torn-added, kept-longest}
use Rattle.mrd_demands.specs.Records.{records}
use Rattle.mrd_demands.specs.Messages.{records_in}
use Rattle.mrd_demands.proofs.NormalStreams.{records-met, records-cut}
use Rattle.mrd_demands.specs.Saved.{SavedOf, TornSaved, ByRefusal}

closing_short : (add : Bool) → length (closing add) ≤ 2
closing_short true = omega arith
closing_short false = omega arith

pub saved_of : (rules : Rules) (s : List ℕ) → SavedOf rules s (report rules s)
unfolding report salvaged
saved_of rules s =
    let f = kept-front rules s in
    let bytes = simp length-append at (ap length f.1) in
    let closes = closing_short (close_added rules s) in
    record {
      well = kept-well rules s;
      rest = f.0;
      front = f.1;
      counted = refl;
      lost = omega (arith, bytes);
      written = refl;
      long = refl;
      room = simp length-append (omega (arith, bytes, closes));
    }

module _ (rules : Rules) (s : List ℕ) where
  -- an accepted stream: all of it is kept, and nothing is added
  pub accepted-saved : {n : ℕ} → answer rules s ≡ accepted n →
      (salvaged rules s ≡ s) × (report rules s ≡ record { messages_kept = n; bytes_not_kept = 0; close_added = false; length = length s })
  unfolding report
  accepted-saved e =
      (accepted-unchanged rules s e, rw (accepted-count rules s e, accepted-whole rules s e, accepted-unadded rules s e, accepted-unchanged rules s e, sub_self))

  whole-front : {n b : ℕ} → length (before rules s) ≡ n → length (joined (before rules s)) ≡ b → kept rules s ≡ before rules s → ByRefusal rules s n b (report rules s)
  unfolding report
  whole-front count bytes e = inl (ap length e ∙ count, ap (λ (ms : List (List ℕ)). length s - length (joined ms)) e ∙ ap (λ (k : ℕ). length s - k) bytes)

  pub refused-saved : {f n b : ℕ} → answer rules s ≡ refused f n b → ByRefusal rules s n b (report rules s)
  unfolding report
  refused-saved {f} {n} {b} e = by (close_added rules s) refl
    where
      at : (length (before rules s) ≡ n) × (length (joined (before rules s)) ≡ b)
      at = refused-counts rules s e

      by : (add : Bool) → close_added rules s ≡ add → ByRefusal rules s n b (report rules s)
      by false u = whole-front at.0 at.1 (kept-unadded rules s u)
      by true u =
          elim (dec_le (length (before rules s)) most_kept) [
            | yes h ↦ whole-front at.0 at.1 (kept-added rules s u ∙ take_all most_kept (before rules s) h)
            | no h ↦
                let many : n ≡ 1000000 = omega (arith, h, at.0, (met rules s).few) in
                let least : most_kept ≤ length (before rules s) = omega (arith, h) in
                inr (many, u, ap length (kept-added rules s u) ∙ length-take-le most_kept (before rules s) least)
          ]

  -- no longer front could have been kept: whatever well-formed messages stand at the front of s, and at the front of any acceptable stream, are the
  -- first of those that are kept
  pub none-longer : (ms : List (List ℕ)) → Every (WellFormed rules) ms → (rest more : List ℕ) → joined ms ++ rest ≡ s → Acceptable rules (joined ms ++ more) →
      (others : List (List ℕ)) × (kept rules s ≡ ms ++ others)
  none-longer ms w rest more here a = kept-longest rules s ms w rest here more (cut-accepted (joined ms ++ more) a)

  -- salvaging what was saved changes nothing
  pub saved-again : {n : ℕ} → answer rules (salvaged rules s) ≡ accepted n → salvaged rules (salvaged rules s) ≡ salvaged rules s
  saved-again e = accepted-unchanged rules (salvaged rules s) e

  -- the records of what is saved are the first of the stream's own, and then that of the close that is added
  pub saved-records : {n : ℕ} → answer rules (salvaged rules s) ≡ accepted n →
      records rules (salvaged rules s) ≡ take (report rules s).messages_kept (records rules s) ++ pick (report rules s).close_added (record_of Close (closing true) ∷ []) []
  unfolding report
  saved-records e =
      let a = saved rules s in
      let k = kept-first rules s in
      let kept-records = records_in rules (kept rules s) (kept-well rules s) in
      let first = each_first rules record_of (kept rules s) k.0 k.1 (met rules s).well (kept-well rules s) in
      let all : records rules s ≡ kept-records ++ first.0 = records-met rules s (before rules s) (met rules s).well refl ∙ first.1 in
      let count : length kept-records ≡ length (kept rules s) = each-count rules record_of (kept rules s) (kept-well rules s) in
      let taken : take (length (kept rules s)) (records rules s) ≡ kept-records =
      ap (take (length (kept rules s))) all ∙ take_at kept-records first.0 (length (kept rules s)) count in
      records-cut (salvaged rules s) e a.0.cut ∙ each_same rules record_of a.0.cut.well (well (close_added rules s)) a.1 ∙
      each_append rules record_of (kept rules s) (added_messages (close_added rules s)) (well (close_added rules s)) (kept-well rules s) (added-well (close_added rules s)) ∙
      ap₂ (λ (xs ys : List Record). xs ++ ys) (sym taken) (added-records (close_added rules s))
    where
      added-well : (add : Bool) → Every (WellFormed rules) (added_messages add)
      added-well true = (close_well rules, tt)
      added-well false = tt

      well : (add : Bool) → Every (WellFormed rules) (kept rules s ++ added_messages add)
      well add = every_append (WellFormed rules) (kept rules s) (added_messages add) (kept-well rules s) (added-well add)

      added-records : (add : Bool) → records_in rules (added_messages add) (added-well add) ≡ pick add (record_of Close (closing true) ∷ []) []
      added-records true = refl
      added-records false = refl

module _ (rules : Rules) (s : List ℕ) {n : ℕ} (e : answer rules s ≡ accepted n) (b : ℕ) (h : b < length s) where
  by-walk : TornSaved rules s (before rules s) b
  unfolding report salvaged
  by-walk =
      let t = tear rules s e b h in
      let k : kept rules (take b s) ≡ t.front = torn-kept rules s e b h in
      let size = simp length-append at (ap length (torn-bytes rules s e b h)) in
      record {
        torn = t;
        saved = rw (k, torn-added rules s e b h);
        counted = ap length k;
        lost = rw k (omega (arith, size));
      }

  -- the messages are those of the recording's only cut
  pub torn-saved : (c : Cut rules s) → TornSaved rules s c.pieces b
  torn-saved c =
      let a = accepted-cut rules s e in
      subst (λ (ms : List (List ℕ)). TornSaved rules s ms b) (sym a.1 ∙ cut_unique s a.0.cut c) by-walk
