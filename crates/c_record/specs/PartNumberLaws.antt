-- A number that is no part's asks for a part that no record has.
-- Assumes nothing.
use Rattle.std.specs.Prelude.{ℕ, zero, suc, ◌-◌, ◌^◌, ◌≤◌, ◌<◌, ◌≡◌, refl, false, List, [], ◌∷◌, eqb, take, drop}
use Rattle.std.proofs.Common.{arith, le-ltb, ne_eqb}
use Rattle.mrd_numbers.specs.Little.{from_bytes, num, Bytes}
use Rattle.mrd_numbers.specs.ByteLaws.{bytes_take, bytes_drop}
use Rattle.mrd_format.specs.declared.kind.Kind.{Kind}
use Rattle.mrd_format.specs.declared.rules.Rules.{Rules}
use Rattle.mrd_format.specs.declared.kind.Kind.TheVariants.{ConfigurationName, ConfigurationText, HeaderText, Close, Text, Acquisition, Image, Waveform}
use Rattle.mrd_format.specs.Kinds.{fixed_size}
use Rattle.mrd_format.specs.Message.{fixed_part}
use Rattle.mrd_format.specs.Acquisition.{get, active-channels}
use Rattle.mrd_stream.specs.Places.{Located, place}
use Rattle.mrd_logic.specs.Answer.{answered, number}
use Rattle.mrd_cut.specs.CutPlaces.{part_at}
use Rattle.mrd_format.specs.Parts.{lacks}
use Rattle.mrd_format.specs.Content.{extent_of}
use Rattle.mrd_parts.specs.Sought.{part_meaning}
use Rattle.mrd_views.specs.Views.{view_of}
use Rattle.c_record.specs.PartNumbers.{no_part, part_numbered}

-- the number of another part is that of none
other-number : (n c : ℕ) → (1 ≤ n → 7 < n) → part_numbered n c ≡ no_part
unfolding part_numbered
other-number zero c h = refl
other-number (suc m) c h = simp (no 0, no 1, no 2, no 3, no 4, no 5, no 6)
  where
    -- the number is above 7, so it is none from 7 down
    no : (i : ℕ) → eqb (suc m) (8 - suc i) ≡ false
    no i = let far : 7 < suc m = h (omega arith) in ne_eqb (suc m) (8 - suc i) (λ e. omega (arith, e, far))

-- two bytes make a number below 65,536
two_bytes : (t : List ℕ) → Bytes t → from_bytes (take 2 t) < 65536
two_bytes [] h = omega arith
two_bytes (a ∷ []) h = omega (arith, h.0)
two_bytes (a ∷ b ∷ t) h = omega (arith, h.0, h.1.0)

few-channels : (h : List ℕ) → Bytes h → get active-channels h < 65536
unfolding num
few-channels h bytes = two_bytes (drop 38 h) (bytes_drop 38 h bytes)

none-lies : (k : Kind) (h : List ℕ) → Bytes h → extent_of (part_meaning no_part) k h ≡ lacks
unfolding extent_of
none-lies ConfigurationName h bytes = refl
none-lies ConfigurationText h bytes = refl
none-lies HeaderText h bytes = refl
none-lies Close h bytes = refl
none-lies Text h bytes = refl
none-lies Acquisition h bytes =
    let few = few-channels h bytes in simp (le-ltb (2 ^ 64 - 1) (get active-channels h) (omega arith))
none-lies Image h bytes = refl
none-lies (Waveform l) h bytes = refl

-- the view of it, of a record of a stream of bytes, is 17
pub no_such_part : (rules : Rules) (s : List ℕ) (i n c : ℕ) {l : Located} → Bytes s → place rules s i ≡ answered l → (1 ≤ n → 7 < n) →
    view_of rules s i (part_numbered n c) ≡ number 17
unfolding view_of fixed_part
no_such_part rules s i n c {l} bytes e other =
    let k = l.kind in
    let message = bytes_take l.size (drop l.start s) (bytes_drop l.start s bytes) in
    let fixed : Bytes (fixed_part k (part_at s l)) = bytes_take (fixed_size k) (drop 2 (part_at s l)) (bytes_drop 2 (part_at s l) message) in
    rw (e, other-number n c other, none-lies k (fixed_part k (part_at s l)) fixed)
