-- What the views of a record show: the record's parts, each at its place.
-- Assumes nothing.
use Rattle.std.specs.Prelude.{ℕ, ◌+◌, ◌*◌, ◌≡◌, List, take, drop}
use Rattle.mrd_logic.specs.Every.{Every}
use Rattle.mrd_logic.specs.Answer.{answered, number}
use Rattle.mrd_format.specs.Content.{Record}
use Rattle.mrd_format.specs.Segments.{PlacedPart}
use Rattle.mrd_format.specs.PartSearch.{NoneIs}
use Rattle.mrd_parts.specs.declared.parts.Part as parts
use Rattle.mrd_parts.specs.declared.parts.Part.TheVariants as asked
use Rattle.mrd_parts.specs.Sought.{part_meaning}
use Rattle.mrd_stream.specs.Places.{Located}
use Rattle.mrd_views.specs.declared.views.Span.{Span}
use Rattle.mrd_views.specs.Views.{span, view_of, shown}
use Rattle.mrd_part_at.specs.PartAt.{parts_at}
use Rattle.mrd_format.specs.declared.rules.Rules.{Rules}

-- the views of record n of s are the parts of the record r; a channel's samples are its share of all of them
pub record ViewsOf (rules : Rules) (s : List ℕ) (n : ℕ) (r : Record) : Type 0 where
  pub name : shown (view_of rules s n asked.Name) s ≡ r.parts.name
  pub text : shown (view_of rules s n asked.Text) s ≡ r.parts.text
  pub trajectory : shown (view_of rules s n asked.Trajectory) s ≡ r.parts.trajectory
  pub attributes : shown (view_of rules s n asked.Attributes) s ≡ r.parts.attributes
  pub pixels : shown (view_of rules s n asked.Pixels) s ≡ r.parts.pixels
  pub waveform : shown (view_of rules s n asked.Waveform) s ≡ r.parts.waveform
  pub channel : (c : ℕ) {x : Span} → view_of rules s n (asked.Channel c) ≡ answered x →
      shown (answered x) s ≡ take x.length (drop (c * x.length) r.parts.samples)

-- the view that is asked for by the name of a part is at that part's place
abbrev pub ViewOfPart : Rules → List ℕ → ℕ → Located → PlacedPart → Type 0
ViewOfPart rules s n l q = (p : parts.Part) → part_meaning p ≡ q.part → view_of rules s n p ≡ answered (span (l.start + q.place.offset) q.place.size)

-- the views of record n, which lies at l: each part of its message at its place, one channel after the other, and 17 for what is no part of it
pub record EachPart (rules : Rules) (s : List ℕ) (n : ℕ) (l : Located) : Type 0 where
  pub there : Every (ViewOfPart rules s n l) (parts_at s l)
  pub else-17 : (p : parts.Part) → NoneIs (part_meaning p) (parts_at s l) → view_of rules s n p ≡ number 17
