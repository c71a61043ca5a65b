-- A message of its kind's size, and where its parts then lie.
-- Assumes nothing.
use Rattle.std.specs.Prelude.{ℕ, ◌+◌, ◌≤◌, ◌≡◌, refl, List, length, take, drop}
use Rattle.std.proofs.Common.{arith}
use Rattle.std.proofs.Math.ListN.{length-drop}
use Rattle.std.proofs.Math.Seq.{length-take-le}
use Rattle.mrd_format.specs.declared.kind.Kind.{Kind}
use Rattle.mrd_format.specs.Kinds.{fixed_size}
use Rattle.mrd_format.specs.Message.{limit, fixed_part, size_of}
use Rattle.mrd_format.specs.MessageLaws.{size-least}
use Rattle.mrd_format.specs.Parts.{Part, Reach, lies, lacks}
use Rattle.mrd_format.specs.Content.{extent_of}
use Rattle.mrd_format.proofs.ReachLaws.{part-within}
use Rattle.mrd_parts.specs.Sought.{Sized}

-- m is as long as a message of kind k with its fixed part, and within the limit
pub record Whole (k : Kind) (m : List ℕ) : Type 0 where
  pub size : length m ≡ size_of k (fixed_part k m)
  pub small : length m ≤ limit

-- so it is with the first z bytes of t
pub record TakenWhole (k : Kind) (z : ℕ) (t : List ℕ) : Type 0 where
  pub fits : z ≤ length t
  pub taken : Whole k (take z t)

-- what lies there is in m
abbrev pub Inside : Reach → List ℕ → Type 0
Inside (lies e) m = e.offset + e.size ≤ length m
Inside lacks m = Unit {0}

module _ {k : Kind} {m : List ℕ} (w : Whole k m) where
  -- its id and its fixed part fit
  pub least : 2 + fixed_size k ≤ length m
  least = omega (arith, w.size, size-least k (fixed_part k m))

  pub fixed-long : length (fixed_part k m) ≡ fixed_size k
  unfolding fixed_part
  fixed-long = length-take-le (fixed_size k) (drop 2 m) (simp length-drop (omega (arith, least)))

  -- so its parts can be asked for
  abbrev pub is-sized : Sized k (fixed_part k m) (length m)
  is-sized = record { long = fixed-long; size = w.size; small = w.small }

  -- and lie in it
  pub inside : (p : Part) → Inside (extent_of p k (fixed_part k m)) m
  inside p = by (extent_of p k (fixed_part k m)) refl
    where
      by : (r : Reach) → extent_of p k (fixed_part k m) ≡ r → Inside r m
      by (lies e) q = omega (arith, w.size, part-within k (fixed_part k m) fixed-long p q)
      by lacks q = tt
