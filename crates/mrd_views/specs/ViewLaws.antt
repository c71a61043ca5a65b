-- Each view lies in its stream.
-- Assumes nothing.
use Rattle.std.specs.Prelude.{ℕ, ◌≤◌, ◌≡◌, refl, List, length}
use Rattle.std.proofs.Common.{arith, sym, ◌∙◌}
use Rattle.mrd_logic.specs.Answer.{Answer, answered, stream, number}
use Rattle.mrd_format.specs.Message.{fixed_part, size_of}
use Rattle.mrd_format.specs.Parts.{Part, Reach, lies, lacks}
use Rattle.mrd_format.specs.Content.{extent_of}
use Rattle.mrd_format.proofs.ReachLaws.{part-within}
use Rattle.mrd_parts.specs.declared.parts.Part as asked
use Rattle.mrd_parts.specs.Sought.{part_meaning, Sized}
use Rattle.mrd_cursor.specs.declared.cursor.Cursor.{Cursor}
use Rattle.mrd_stream.specs.Places.{Located, place}
use Rattle.mrd_cut.specs.CutPlaces.{part_at}
use Rattle.mrd_cut.specs.Inside.{Inside}
use Rattle.mrd_record.specs.AtCursor.{place_at, LiesIn}
use Rattle.mrd_record.specs.RecordLaws.{fixed-long, place-lies, at_lies}
use Rattle.mrd_views.specs.declared.views.Span.{Span}
use Rattle.mrd_views.specs.Views.{shown_at, start_of, view_by, view_of, ViewIn}
use Rattle.mrd_format.specs.declared.rules.Rules.{Rules}

-- a record that lies in s
module _ {rules : Rules} (s : List ℕ) (l : Located) (i : Inside rules s l) where
  -- its fixed part gives its size
  pub fixed-sized : Sized l.kind (fixed_part l.kind (part_at s l)) l.size
  fixed-sized =
      let size : size_of l.kind (fixed_part l.kind (part_at s l)) ≡ l.size = rw (← i.kind) (i.well.whole ∙ i.long) in
      record { long = fixed-long s l i; size = sym size; small = rw (← size, ← i.kind) i.well.small }

  shown-fits : (p : Part) (r : Reach) → extent_of p l.kind (fixed_part l.kind (part_at s l)) ≡ r → ViewIn s (shown_at r l.start)
  shown-fits p (lies e) q =
      omega (arith, part-within l.kind (fixed_part l.kind (part_at s l)) (fixed-long s l i) p q, fixed-sized.size, i.fits)
  shown-fits p lacks q = tt

  -- so does each part of it
  pub part-fits : (p : Part) → ViewIn s (shown_at (extent_of p l.kind (fixed_part l.kind (part_at s l))) l.start)
  part-fits p = shown-fits p (extent_of p l.kind (fixed_part l.kind (part_at s l))) refl

  pub start_fits : (p : Part) → start_of (shown_at (extent_of p l.kind (fixed_part l.kind (part_at s l))) l.start) ≤ length s
  start_fits p = by (shown_at (extent_of p l.kind (fixed_part l.kind (part_at s l))) l.start) (part-fits p)
    where
      by : (a : Answer Span) → ViewIn s a → start_of a ≤ length s
      by (answered x) v = omega (arith, v)
      by (stream f r b) v = omega arith
      by (number n) v = omega arith

-- a view of a record that lies in the stream does
pub view-fits : (s : List ℕ) (a : Answer Located) (p : asked.Part) → LiesIn s a → ViewIn s (view_by a p s)
view-fits s (answered l) p x = part-fits s l x.1 (part_meaning p)
view-fits s (stream f r b) p x = tt
view-fits s (number k) p x = tt

-- so each view whose place is answered does
pub view_lies : (rules : Rules) (s : List ℕ) (n : ℕ) (p : asked.Part) (a : Answer Span) → a ≡ view_of rules s n p → ViewIn s a
unfolding view_of
view_lies rules s n p a e = rw e (view-fits s (place rules s n) p (place-lies rules s n))

pub due_view_lies : (rules : Rules) (c : Cursor) (s : List ℕ) (p : asked.Part) (a : Answer Span) → a ≡ view_by (place_at rules c s) p s → ViewIn s a
due_view_lies rules c s p a e = rw e (view-fits s (place_at rules c s) p (at_lies rules c s))
