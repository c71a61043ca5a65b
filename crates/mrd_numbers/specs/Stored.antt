-- Storing bytes in an output: what lies before and after them keeps its content. The laws by which field writers, each given the part of the output
-- from its own place on, make one message.
-- Assumes nothing.
use Rattle.std.specs.Prelude.{ℕ, ◌+◌, ◌-◌, ◌≤◌, ◌≡◌, List, [], ◌++◌, length, take, drop}
use Rattle.std.proofs.Common.{zero-add, add_assoc, le_of_eq, arith, ap, ap₂, ◌∙◌, append_assoc, append-nil, length-append, length-drop, drop_of_length-le, length-take-le, take-take, take_all, drop-drop, take_at, drop_at}
use Rattle.std.proofs.lemmas.List.{take-append-le}

-- the output o with the bytes m in it from `at` on
unfoldable pub stored : ℕ → List ℕ → List ℕ → List ℕ
stored at m o = take at o ++ (m ++ drop (at + length m) o)

-- the same at the front
abbrev pub front : List ℕ → List ℕ → List ℕ
front m o = m ++ drop (length m) o

pub stored-front : (m o : List ℕ) → stored 0 m o ≡ front m o
unfolding stored
stored-front m o = rw zero-add

-- an output keeps its length
pub length-stored : (at : ℕ) (m o : List ℕ) → at + length m ≤ length o → length (stored at m o) ≡ length o
unfolding stored
length-stored at m o h =
    let before : length (take at o) ≡ at = length-take-le at o (omega arith) in
    simp (length-append, length-drop, before) (omega arith)

-- what lies before the bytes that are stored stays, and so does what lies after them
pub take-stored : (n at : ℕ) (m o : List ℕ) → n ≤ at → at ≤ length o → take n (stored at m o) ≡ take n o
unfolding stored
take-stored n at m o h fits =
    let before : length (take at o) ≡ at = length-take-le at o fits in
    let less : n ≤ length (take at o) = omega arith in
    rw take-append-le (take-take n at o h)

pub drop-stored : (n at : ℕ) (m o : List ℕ) → at + length m ≤ n → at ≤ length o → drop n (stored at m o) ≡ drop n o
unfolding stored
drop-stored n at m o h fits =
    let end = at + length m in
    let before : length (take at o) ≡ at = length-take-le at o fits in
    let front : length (take at o ++ m) ≡ end = simp (length-append, before) in
    let far : n ≡ end + (n - end) = omega arith in
    rw (← append_assoc (take at o) m (drop end o), far, ← drop-drop (n - end) end, drop_at (take at o ++ m) (drop end o) end front)
    (drop-drop (n - end) end o)

-- bytes stored over as many others leave nothing of them
pub stored-over : (at : ℕ) (m n o : List ℕ) → length n ≡ length m → at ≤ length o → stored at m (stored at n o) ≡ stored at m o
unfolding stored
stored-over at m n o e fits =
    let same : at + length n ≤ at + length m = omega arith in
    ap₂ (λ (a b : List ℕ). a ++ (m ++ b)) (take-stored at at n o (omega arith) fits) (drop-stored (at + length m) at n o same fits)

-- bytes stored right after others are stored with them
pub stored_next : (at : ℕ) (m n o : List ℕ) → at + length m ≤ length o → stored (at + length m) n (stored at m o) ≡ stored at (m ++ n) o
unfolding stored
stored_next at m n o h =
    let end = at + length m in
    let before : length (take at o) ≡ at = length-take-le at o (omega arith) in
    let front : length (take at o ++ m) ≡ end = simp (length-append, before) in
    let regroup : take at o ++ (m ++ drop end o) ≡ (take at o ++ m) ++ drop end o = simp append_assoc in
    let past : drop (end + length n) ((take at o ++ m) ++ drop end o) ≡ drop (at + length (m ++ n)) o =
    rw (← drop-drop (length n) end, drop_at (take at o ++ m) (drop end o) end front, drop-drop, length-append, add_assoc) in
    rw (regroup, take_at (take at o ++ m) (drop end o) end front, past) (simp append_assoc)

-- the part of o that is passed on from `at` on, and o when that part has come back as x
abbrev pub part_from : ℕ → List ℕ → List ℕ
part_from at o = take (length o - at) (drop at o)

abbrev pub returned : ℕ → List ℕ → List ℕ → List ℕ
returned at o x = take at o ++ (x ++ drop (length o - at) (drop at o))

pub part-from : (at : ℕ) (o : List ℕ) → part_from at o ≡ drop at o
part-from at o = take_all (length o - at) (drop at o) (le_of_eq (length-drop at o))

pub length_part : (at : ℕ) (o : List ℕ) → length (part_from at o) ≡ length o - at
length_part at o = ap length (part-from at o) ∙ length-drop at o

-- bytes written at the front of the part passed on from `at` on are stored there
pub stored-part : (at : ℕ) (o m x : List ℕ) → x ≡ m ++ drop (length m) (part_from at o) → returned at o x ≡ stored at m o
unfolding stored
stored-part at o m x p =
    let none : drop (length o - at) (drop at o) ≡ [] = drop_of_length-le (drop at o) (le_of_eq (length-drop at o)) in
    rw (p, none, part-from, drop-drop, append-nil)

-- the same at the front
pub front-first : (w : ℕ) (o m x : List ℕ) → length m ≡ w → x ≡ m ++ drop w (part_from 0 o) → returned 0 o x ≡ m ++ drop w o
front-first w o m x e p = rw (← e) (stored-part 0 o m x (rw e p) ∙ stored-front m o)

-- and after bytes m at the front
front-after : (o m n y : List ℕ) → length m ≤ length o → y ≡ n ++ drop (length n) (part_from (length m) (m ++ drop (length m) o)) →
    returned (length m) (m ++ drop (length m) o) y ≡ (m ++ n) ++ drop (length m + length n) o
front-after o m n y h q =
    let next : stored (length m) n (stored 0 m o) ≡ stored 0 (m ++ n) o = rw zero-add at (stored_next 0 m n o (rw zero-add h)) in
    rw (stored-part (length m) (m ++ drop (length m) o) n y q, ← stored-front, next, stored-front, length-append)

pub front-next : (w z : ℕ) (o o' m n y : List ℕ) → o' ≡ m ++ drop w o → length m ≡ w → w ≤ length o → length n ≡ z →
    y ≡ n ++ drop z (part_from w o') → returned w o' y ≡ (m ++ n) ++ drop (w + z) o
front-next w z o o' m n y p e h f q = rw (p, ← e, ← f) (front-after o m n y (rw e h) (rw (p, ← e, ← f) at q))

-- bytes m written in the part from the front on, and then n in the part after them: x and y are the parts as they came back
pub front-two : (w z : ℕ) (o m n x y : List ℕ) → length m ≡ w → length n ≡ z → w ≤ length o → x ≡ m ++ drop w (part_from 0 o) →
    y ≡ n ++ drop z (part_from w (returned 0 o x)) → returned w (returned 0 o x) y ≡ front (m ++ n) o
front-two w z o m n x y e f h p q =
    let all : length (m ++ n) ≡ w + z = simp (length-append, e, f) in
    rw all (front-next w z o (returned 0 o x) m n y (front-first w o m x e p) e h f q)
