-- An image's message with other bytes in the place of its header's attribute length: it is the same record and has the same normal form; and its
-- normal form is such a message.
-- Assumes nothing.
use Rattle.std.specs.Prelude.{ℕ, ◌+◌, ◌^◌, ◌≤◌, ◌<◌, ◌≡◌, false, not, ◌||◌, ◌⊎◌, eqb}
use Rattle.std.proofs.Common.{le_of_eq, arith, ◌∙◌, inl, inr, length-drop, length-take-le, take-take, take-add, take_all, drop_at}
use Rattle.std.proofs.Math.Path.{refl, sym, ap}
use Rattle.std.proofs.Math.Bool.{or-true}
use mathlib.Core.List.{List, [], ◌∷◌, ◌++◌, map, append-nil, append_assoc}
use borrow.Author.Tests.{eq-eqb, ne_eqb}
use Rattle.std.proofs.Math.ListN.{length, take, drop}
use Rattle.mrd_numbers.specs.Little.{to_bytes, num}
use Rattle.mrd_numbers.specs.Laws.{num-append, num-take, num-drop, part-take}
use Rattle.mrd_numbers.specs.ToBytesLaws.{length-to_bytes}
use Rattle.mrd_numbers.specs.HalfLaws.{read_after_write}
use Rattle.mrd_numbers.specs.Stored.{stored, length-stored, take-stored, drop-stored, stored-over}
use Rattle.mrd_logic.specs.Every.{Every, every_split}
use Rattle.mrd_logic.specs.Checks.{◌when◌, first, Passed}
use Rattle.mrd_logic.specs.CheckLaws.{first-passed, first_skip}
use Rattle.mrd_format.specs.declared.kind.Kind.TheVariants.{Image}
use Rattle.mrd_format.specs.Parts as part
use Rattle.mrd_format.specs.Parts.{Part}
use Rattle.mrd_format.specs.Segments.{counted}
use Rattle.mrd_format.specs.Headers.{field, length_of, settled}
use Rattle.mrd_format.specs.Lawful.{SameFields}
use Rattle.mrd_format.proofs.HeaderLaws.{image_lawful, front-fields, values_same, settled-long, front-settled}
use Rattle.mrd_format.proofs.AdjoinLaws.{segments-joined}
use Rattle.mrd_format.specs.Image.{Field, layout, get, fields, cells, attribute-string-len, attribute_length, lengths_differ, header_checks, checks, pixel_count, pixels_size, body}
use Rattle.mrd_format.specs.Message.{limit, id_at, fixed_part, own_checks, body_size, size_of}
use Rattle.mrd_format.specs.MessageLaws.{num-fixed}
use Rattle.mrd_format.specs.OwnCheckLaws.{own-numbered}
use Rattle.mrd_format.specs.Content.{extent_of, part_size, contents_of, fields_of, record_of, normal_of}
use Rattle.mrd_format.specs.Image.{Agree}

-- the header with the true length in it
pub image_settled : (z : Part → ℕ) (h : List ℕ) → settled z cells h ≡ take 194 h ++ to_bytes 4 (z part.attributes)
image_settled z h =
    front-settled z 194 (map (λ (f : Field). field (layout f)) fields) (length_of part.attributes (layout attribute-string-len) ∷ []) h refl refl ∙
    ap (λ (b : List ℕ). take 194 h ++ b) (append-nil (to_bytes 4 (z part.attributes)))

-- headers that agree so pass the same checks, and have the same pixels
pub agree-checks : (g h : List ℕ) → Agree g h → header_checks g ≡ header_checks h
unfolding header_checks
agree-checks g h a = rw (a 2 0 (omega arith), a 2 2 (omega arith))

pub agree-pixels : (g h : List ℕ) → Agree g h → pixels_size g ≡ pixels_size h
unfolding pixels_size pixel_count
agree-pixels g h a =
    rw (a 2 16 (omega arith), a 2 18 (omega arith), a 2 20 (omega arith), a 2 34 (omega arith), a 2 2 (omega arith))

-- a header alone agrees with the fixed part that it begins
pub agree-header : (f : List ℕ) → Agree (take 198 f) f
agree-header f w i h = num-take w 198 f i (omega arith)

-- an image's fixed part that is made of the header h, with the true length in it, and of x after it
module _ (z : Part → ℕ) (h x : List ℕ) (long : length h ≡ 198) where
  abbrev made : List ℕ
  made = settled z cells h ++ x

  made-parts : made ≡ take 194 h ++ (to_bytes 4 (z part.attributes) ++ x)
  made-parts =
      ap (λ (b : List ℕ). b ++ x) (image_settled z h) ∙ append_assoc (take 194 h) (to_bytes 4 (z part.attributes)) x

  -- the numbers of the record's fields are the header's
  pub made-agrees : Agree made h
  made-agrees w i fits =
      let front : length (take 194 h) ≡ 194 = length-take-le 194 h (omega (arith, long)) in
      ap (λ (t : List ℕ). num w t i) made-parts ∙ num-append w (take 194 h) _ i (omega (arith, front)) ∙ num-take w 194 h i fits

  -- the header's number is the true length
  pub made-number : z part.attributes < 256 ^ 4 → get attribute-string-len made ≡ z part.attributes
  made-number small =
      let front : length (take 194 h) ≡ 194 = length-take-le 194 h (omega (arith, long)) in
      ap (λ (t : List ℕ). num 4 t 194) made-parts ∙ rw front at (read_after_write 4 (z part.attributes) (take 194 h) x small)

-- and the 8-byte length after it is the one that is put there
pub made-count : (z : Part → ℕ) (h : List ℕ) (a : ℕ) → length h ≡ 198 → a < 256 ^ 8 → attribute_length (settled z cells h ++ to_bytes 8 a) ≡ a
made-count z h a long small =
    let front : length (settled z cells h) ≡ 198 = settled-long z 198 cells h image_lawful (le_of_eq (sym long)) in
    rw (append-nil, front) at (read_after_write 8 a (settled z cells h) [] small)

-- the header's number passes check 9
pub number-passes : (n a : ℕ) → (n ≡ 0) ⊎ (n ≡ a) → not (eqb n 0 || eqb n a) ≡ false
number-passes n a (inl e) = rw (eq-eqb n 0 e)
number-passes n a (inr e) = rw (eq-eqb n a e, or-true)

-- an image's message m with w in that place, after the id and the 194 bytes of the record's fields
module _ (m w : List ℕ) (size : length w ≡ 4) (long : 208 ≤ length m) where
  abbrev pub restated : List ℕ
  restated = stored 196 w m

  pub restated-long : length restated ≡ length m
  restated-long = length-stored 196 w m (omega (arith, size))

  -- what stands before it and after it stays
  front : take 196 restated ≡ take 196 m
  front = take-stored 196 196 w m (omega arith) (omega arith)

  rest : (n : ℕ) → drop (200 + n) restated ≡ drop (200 + n) m
  rest n = drop-stored (200 + n) 196 w m (omega (arith, size)) (omega arith)

  before : (k i : ℕ) → i + k ≤ 196 → num k restated i ≡ num k m i
  before k i h = sym (num-take k 196 restated i h) ∙ ap (λ (t : List ℕ). num k t i) front ∙ num-take k 196 m i h

  pub restated-id : id_at restated ≡ id_at m
  restated-id = before 2 0 (omega arith)

  -- the numbers of the fixed part before it
  restated-agrees : Agree (fixed_part Image restated) (fixed_part Image m)
  restated-agrees k i h = num-fixed Image restated k i (omega arith) ∙ before k (2 + i) (omega arith) ∙ sym (num-fixed Image m k i (omega arith))

  -- and after it
  pub same_length : attribute_length (fixed_part Image restated) ≡ attribute_length (fixed_part Image m)
  same_length =
      num-fixed Image restated 8 198 (omega arith) ∙ sym (num-drop 8 200 restated 0) ∙ ap (λ (t : List ℕ). num 8 t 0) (rest 0) ∙
      num-drop 8 200 m 0 ∙ sym (num-fixed Image m 8 198 (omega arith))

  its-number : get attribute-string-len (fixed_part Image restated) ≡ num 4 w 0
  unfolding stored
  its-number =
      let after = drop (196 + length w) m in
      num-fixed Image restated 4 194 (omega arith) ∙ sym (num-drop 4 196 restated 0) ∙
      ap (λ (t : List ℕ). num 4 t 0) (drop_at (take 196 m) (w ++ after) 196 (length-take-le 196 m (omega arith))) ∙
      num-append 4 w after 0 (omega arith)

  same-pixels : pixels_size (fixed_part Image restated) ≡ pixels_size (fixed_part Image m)
  same-pixels = agree-pixels (fixed_part Image restated) (fixed_part Image m) restated-agrees

  pub restated-size : size_of Image (fixed_part Image restated) ≡ size_of Image (fixed_part Image m)
  unfolding size_of body_size
  restated-size = rw (same_length, same-pixels)

  -- it passes the checks of its header as m does
  header-passed : first (own_checks Image (fixed_part Image m)) ≡ 0 → Every Passed (header_checks (fixed_part Image restated))
  unfolding own_checks checks
  header-passed sound =
      let f = fixed_part Image m in
      let passed = first-passed (checks f) (own-numbered Image f) sound in
      rw (agree-checks (fixed_part Image restated) f restated-agrees)
      (every_split Passed (header_checks f) ((9 when lengths_differ f) ∷ []) passed).0

  -- and check 9 where the number is 0 or the true length
  pub restated-sound : (num 4 w 0 ≡ 0) ⊎ (num 4 w 0 ≡ attribute_length (fixed_part Image m)) → first (own_checks Image (fixed_part Image m)) ≡ 0 →
      first (own_checks Image (fixed_part Image restated)) ≡ 0
  unfolding own_checks checks
  restated-sound may sound =
      first_skip (header_checks (fixed_part Image restated)) _ (header-passed sound) ∙ rw (its-number, same_length, number-passes _ _ may)

  -- and with any other number check 9 refuses it
  pub restated-refused : (num 4 w 0 ≡ 0 → ⊥) → (num 4 w 0 ≡ attribute_length (fixed_part Image m) → ⊥) →
      first (own_checks Image (fixed_part Image m)) ≡ 0 → first (own_checks Image (fixed_part Image restated)) ≡ 9
  unfolding own_checks checks
  restated-refused some other sound =
      first_skip (header_checks (fixed_part Image restated)) _ (header-passed sound) ∙
      rw (its-number, same_length, ne_eqb _ _ some, ne_eqb _ _ other)

  -- the fields of the record stay, and so do its parts
  same-fields : SameFields cells (fixed_part Image restated) (fixed_part Image m)
  unfolding fixed_part
  same-fields =
      front-fields 194 (map (λ (f : Field). field (layout f)) fields) (take 206 (drop 2 restated)) (take 206 (drop 2 m)) refl
      (take-take 194 206 (drop 2 restated) (omega arith) ∙ sym (part-take 194 196 restated 2 (omega arith)) ∙
      ap (λ (t : List ℕ). take 194 (drop 2 t)) front ∙ part-take 194 196 m 2 (omega arith) ∙
      sym (take-take 194 206 (drop 2 m) (omega arith)))

  same-attributes : take (attribute_length (fixed_part Image restated)) (drop 208 restated) ≡ take (attribute_length (fixed_part Image m)) (drop 208 m)
  same-attributes = rw (same_length, rest 8)

  same-picture :
      take (pixels_size (fixed_part Image restated)) (drop (208 + attribute_length (fixed_part Image restated)) restated) ≡
      take (pixels_size (fixed_part Image m)) (drop (208 + attribute_length (fixed_part Image m)) m)
  same-picture =
      let a = attribute_length (fixed_part Image m) in
      let far : 208 + a ≡ 200 + (8 + a) = omega arith in
      rw (same_length, same-pixels, far, rest (8 + a))

  pub restated-record : record_of Image restated ≡ record_of Image m
  unfolding record_of fields_of contents_of extent_of
  restated-record =
      let same = values_same cells (fixed_part Image restated) (fixed_part Image m) same-fields in
      λ i. record {
        kind = Image;
        fields = same i;
        parts = record {
          name = [];
          text = [];
          trajectory = [];
          samples = [];
          attributes = same-attributes i;
          pixels = same-picture i;
          waveform = [];
        };
      }

-- the normal form of an image's message has the true length there
pub image_normal : (m : List ℕ) → size_of Image (fixed_part Image m) ≡ length m →
    normal_of Image m ≡ stored 196 (to_bytes 4 (attribute_length (fixed_part Image m))) m
unfolding normal_of stored fixed_part extent_of size_of body_size
image_normal m whole =
    let h = take 206 (drop 2 m) in
    let a = to_bytes 4 (attribute_length h) in
    let l = part_size Image h in
    let after = segments-joined l cells m h 200 (counted 8 part.attributes ∷ body h) refl in
    let all : take (8 + (attribute_length h + pixels_size h)) (drop 200 m) ≡ drop 200 m =
    take_all (8 + (attribute_length h + pixels_size h)) (drop 200 m) (simp length-drop (omega (arith, whole))) in
    let header : settled l cells (take 198 (drop 2 m)) ≡ take 194 (drop 2 m) ++ a =
    image_settled l (take 198 (drop 2 m)) ∙ ap (λ (b : List ℕ). b ++ a) (take-take 194 198 (drop 2 m) (omega arith)) in
    let front : take 2 m ++ (settled l cells (take 198 (drop 2 m)) ++ drop 200 m) ≡ take 196 m ++ (a ++ drop 200 m) =
    rw (header, take-add 2 194 m, append_assoc (take 194 (drop 2 m)) a (drop 200 m), append_assoc (take 2 m) (take 194 (drop 2 m)) (a ++ drop 200 m)) in
    ap (λ (x : List ℕ). take 2 m ++ (settled l cells (take 198 (drop 2 m)) ++ x)) (after ∙ all) ∙ front

-- so other bytes in that place do not change it
pub restated-normal : (m w : List ℕ) → length w ≡ 4 → size_of Image (fixed_part Image m) ≡ length m → 208 ≤ length m →
    normal_of Image (stored 196 w m) ≡ normal_of Image m
restated-normal m w size whole long =
    let a = attribute_length (fixed_part Image m) in
    let four : length (to_bytes 4 a) ≡ 4 = length-to_bytes 4 a in
    image_normal (stored 196 w m) (restated-size m w size long ∙ whole ∙ sym (restated-long m w size long)) ∙
    rw (same_length m w size long) (stored-over 196 (to_bytes 4 a) w m (omega (arith, size, four)) (omega arith)) ∙
    sym (image_normal m whole)

-- the true length reads back, where the message is within the limit
pub true_length : (a : ℕ) → a ≤ limit → num 4 (to_bytes 4 a) 0 ≡ a
true_length a h = rw append-nil at (read_after_write 4 a [] [] (omega arith))
