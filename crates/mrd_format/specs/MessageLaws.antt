-- What follows a well-formed message does not matter to it: its id, its fixed part and its size are read from its own bytes.
-- Hence no well-formed message is the beginning of another.
-- Assumes nothing.
use Rattle.std.specs.Prelude.{ℕ, ◌+◌, ◌≤◌, ◌≡◌, List, ◌++◌, length, take, drop, Some}
use Rattle.std.proofs.Common.{le_of_eq, arith, sym, ap, ◌∙◌, length-drop, take-append-drop, length-take-le}
use Rattle.std.proofs.lemmas.List.{take-append-le, drop-append-le}
use Rattle.std.proofs.Math.Seq.{take-append_seam}
use Rattle.mrd_numbers.specs.Little.{num}
use Rattle.mrd_numbers.specs.Laws.{num-append, num-take, num-drop}
use Rattle.mrd_format.specs.declared.kind.Kind.{Kind}
use Rattle.mrd_format.specs.declared.rules.Rules.{Rules}
use Rattle.mrd_format.specs.Kinds.{fixed_size, identified}
use Rattle.mrd_format.specs.Message.{id_at, fixed_part, size_of}
use Rattle.mrd_format.specs.WellFormed.{WellFormed}

-- what follows an id does not matter to it
pub id-append : (m rest : List ℕ) → 2 ≤ length m → id_at (m ++ rest) ≡ id_at m
id-append m rest h = num-append 2 m rest 0 h

-- nor do other bytes after it
pub id-kept : (m x : List ℕ) → 2 ≤ length m → id_at (take 2 m ++ x) ≡ id_at m
id-kept m x h =
    let two : length (take 2 m) ≡ 2 = length-take-le 2 m h in
    id-append (take 2 m) x (le_of_eq (sym two)) ∙ sym (id-append (take 2 m) (drop 2 m) (le_of_eq (sym two))) ∙ ap id_at (take-append-drop 2 m)

-- what follows a fixed part does not matter to it
pub fixed-append : (k : Kind) (m rest : List ℕ) → 2 + fixed_size k ≤ length m → fixed_part k (m ++ rest) ≡ fixed_part k m
unfolding fixed_part
fixed-append k m rest h =
    let id : 2 ≤ length m = omega arith in
    let fits : fixed_size k ≤ length (drop 2 m) = simp length-drop (omega arith) in
    rw (drop-append-le, take-append-le)

-- a number of the fixed part stands in the message after the id
pub num-fixed : (k : Kind) (t : List ℕ) (w i : ℕ) → i + w ≤ fixed_size k → num w (fixed_part k t) i ≡ num w t (2 + i)
unfolding fixed_part
num-fixed k t w i h = num-take w (fixed_size k) (drop 2 t) i h ∙ num-drop w 2 t i

-- a message is no shorter than its id and fixed part
pub size-least : (k : Kind) (h : List ℕ) → 2 + fixed_size k ≤ size_of k h
unfolding size_of
size-least k h = omega arith

-- the id and the fixed part of a part that holds them are the whole's
module _ (k : Kind) (z : ℕ) (t : List ℕ) (least : 2 + fixed_size k ≤ z) (fits : z ≤ length t) where
  long : 2 + fixed_size k ≤ length (take z t)
  long = rw length-take-le least

  pub id-take : id_at (take z t) ≡ id_at t
  id-take = sym (id-append (take z t) (drop z t) (omega (arith, long))) ∙ ap id_at (take-append-drop z t)

  pub fixed-take : fixed_part k (take z t) ≡ fixed_part k t
  fixed-take = sym (fixed-append k (take z t) (drop z t) long) ∙ ap (fixed_part k) (take-append-drop z t)

-- a well-formed message holds its id and fixed part
pub well-least : {rules : Rules} (m : List ℕ) (w : WellFormed rules m) → 2 + fixed_size w.kind ≤ length m
well-least m w = omega (arith, size-least w.kind (fixed_part w.kind m))

-- a well-formed message with bytes after it: its kind, its fixed part and its size
module _ {rules : Rules} (m rest : List ℕ) (w : WellFormed rules m) where
  pub well-known : identified rules (id_at (m ++ rest)) ≡ Some w.kind
  well-known =
      let h : 2 ≤ length m = omega (arith, well-least m w) in
      rw id-append w.known

  pub well-fixed : fixed_part w.kind (m ++ rest) ≡ fixed_part w.kind m
  well-fixed = fixed-append w.kind m rest (well-least m w)

  pub well-size : size_of w.kind (fixed_part w.kind (m ++ rest)) ≡ length m
  well-size = rw well-fixed w.whole

-- two well-formed messages at the front of the same bytes are the same
pub prefix_free : {rules : Rules} (m n a b : List ℕ) → WellFormed rules m → WellFormed rules n → m ++ a ≡ n ++ b → m ≡ n
prefix_free m n a b w v e =
    let k : w.kind ≡ v.kind = cc (well-known m a w, well-known n b v) in
    let z : length m ≡ length n = cc (well-size m a w, well-size n b v) in
    cc (take-append_seam m a, take-append_seam n b)
