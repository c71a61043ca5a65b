-- A well-formed message of bytes, made again of its own header and parts, is its normal form; and so is what its record is written as.
-- Assumes nothing.
use Rattle.std.specs.Prelude.{ℕ, ◌+◌, ◌-◌, ◌≤◌, ◌<◌, ◌≡◌, refl, true, List, [], ◌++◌, length, take, drop, replicate}
use Rattle.std.proofs.Common.{le_of_eq, arith, sym, ap, ap₂, ◌∙◌, append-nil, append_assoc, length-drop, length-take-le, take-take}
use Rattle.mrd_numbers.specs.Little.{to_bytes, num, Bytes}
use Rattle.mrd_numbers.specs.Laws.{num-take, num-drop}
use Rattle.mrd_numbers.specs.ByteLaws.{bytes_take, bytes_drop, write_num}
use Rattle.mrd_logic.specs.Checks.{first}
use Rattle.mrd_format.specs.declared.rules.Rules.{Rules}
use Rattle.mrd_format.specs.declared.kind.Kind.{Kind}
use Rattle.mrd_format.specs.declared.kind.Kind.TheVariants.{ConfigurationName, ConfigurationText, HeaderText, Close, Text, Acquisition, Image, Waveform}
use Rattle.mrd_format.specs.Kinds.{id_of, form_of, fixed_size}
use Rattle.mrd_format.specs.IdLaws.{known-id}
use Rattle.mrd_format.specs.Segments.{name_length, segments_bytes}
use Rattle.mrd_format.specs.Texts.{text_length}
use Rattle.mrd_format.specs.Message.{id_at, fixed_part, own_checks, body_size, size_of}
use Rattle.mrd_format.specs.WellFormed.{WellFormed}
use Rattle.mrd_format.specs.MessageLaws.{well-least}
use Rattle.mrd_format.specs.Content.{extent_of, part_size, contents_of, fields_of, record_of, normal_of, fixed_of, body_of, bytes_after_id, message_of, bytes_of}
use Rattle.mrd_format.specs.Acquisition as acquisition
use Rattle.mrd_format.specs.Image as image
use Rattle.mrd_format.specs.Waveform as waveform
use Rattle.mrd_format.specs.Parts.{Part, attributes, Parts, Contents, part_length}
use Rattle.mrd_format.specs.Headers.{Cell, values, settled, written}
use Rattle.mrd_format.proofs.AdjoinLaws.{joined-channels}
use Rattle.mrd_format.specs.Lawful.{lawful, SameFields}
use Rattle.mrd_format.proofs.HeaderLaws.{acquisition-lawful, image_lawful, waveform-lawful, front-fields, settled_same, written-fields}
use Rattle.mrd_format.proofs.ImageLaws.{image_settled}
use Rattle.mrd_format.specs.Normalised.{name_bytes}
use Rattle.mrd_format.proofs.NormalLaws.{name_short}

-- a part that lies in the message has its size
pub part_length_lem : (m : List ℕ) (at n : ℕ) → at + n ≤ length m → length (take n (drop at m)) ≡ n
part_length_lem m at n h = length-take-le n (drop at m) (simp length-drop (omega arith))

-- a length is written as the bytes that it was read from, byte i of a fixed part of z bytes
count-written : (m : List ℕ) → Bytes m → (z w i : ℕ) {n : ℕ} → i + w ≤ z → 2 + z ≤ length m → n ≡ num w (take z (drop 2 m)) i →
    to_bytes w n ≡ take w (drop (2 + i) m)
count-written m b z w i within long e =
    ap (to_bytes w) (e ∙ num-take w z (drop 2 m) i within ∙ num-drop w 2 m i) ∙ write_num w m (2 + i) b (omega arith)

-- two parts, one after the other
then : {a b x y : List ℕ} → a ≡ b → x ≡ y → a ++ x ≡ b ++ y
then e f = ap₂ (λ (a x : List ℕ). a ++ x) e f

-- a part that nothing follows
last : (x : List ℕ) → x ≡ x ++ []
last x = sym (append-nil x)

-- the bytes after the id, of a name, of a text, and of an image
name-content : (m : List ℕ) (n : ℕ) → length m ≡ 1026 → n < 1024 →
    (take n (drop 2 m) ++ replicate (1024 - length (take n (drop 2 m))) 0) ++ [] ≡ take n (drop 2 m) ++ (replicate (1024 - n) 0 ++ [])
name-content m n whole short =
    let size : length (take n (drop 2 m)) ≡ n = part_length_lem m 2 n (omega arith) in
    ap (λ (j : ℕ). (take n (drop 2 m) ++ replicate (1024 - j) 0) ++ []) size ∙ append_assoc (take n (drop 2 m)) (replicate (1024 - n) 0) []

text-content : (m : List ℕ) → Bytes m → (z : ℕ) → z ≡ text_length (take 4 (drop 2 m)) → 6 + z ≡ length m →
    to_bytes 4 (length (take z (drop 6 m))) ++ take z (drop 6 m) ≡ take 4 (drop 2 m) ++ (take z (drop 6 m) ++ [])
unfolding text_length
text-content m b z e whole =
    then (count-written m b 4 4 0 (omega arith) (omega arith) (part_length_lem m 6 z (le_of_eq whole) ∙ e)) (last (take z (drop 6 m)))

image_content : (y z : Part → ℕ) (m : List ℕ) → Bytes m → (a p : ℕ) → a ≡ image.attribute_length (take 206 (drop 2 m)) → 208 + (a + p) ≡ length m →
    y attributes ≡ length (take a (drop 208 m)) → z attributes ≡ a →
    let header = take 198 (drop 2 m) in
    let attributes = take a (drop 208 m) in
    let pixels = take p (drop (208 + a) m) in
    (settled y image.cells header ++ to_bytes 8 (length attributes)) ++ (attributes ++ pixels) ≡
    settled z image.cells header ++ (take 8 (drop 200 m) ++ (attributes ++ (pixels ++ [])))
image_content y z m b a p e whole given meant =
    let header = take 198 (drop 2 m) in
    let attributes = take a (drop 208 m) in
    let pixels = take p (drop (208 + a) m) in
    let size : length attributes ≡ a = part_length_lem m 208 a (omega arith) in
    append_assoc (settled y image.cells header) (to_bytes 8 (length attributes)) (attributes ++ pixels) ∙
    then (image_settled y header ∙ ap (λ (n : ℕ). take 194 header ++ to_bytes 4 n) (given ∙ size ∙ sym meant) ∙ sym (image_settled z header))
    (then (count-written m b 206 8 198 (omega arith) (omega arith) (size ∙ e)) (then {a = attributes} refl (last pixels)))

-- and of every kind
content : (k : Kind) (m : List ℕ) → Bytes m → first (own_checks k (fixed_part k m)) ≡ 0 → size_of k (fixed_part k m) ≡ length m →
    take 2 m ++ bytes_after_id k (contents_of k m) ≡ normal_of k m
unfolding normal_of contents_of bytes_after_id fixed_of body_of extent_of size_of body_size fixed_part
content ConfigurationName m b sound whole =
    then {a = take 2 m} refl (name-content m (name_length (name_bytes m)) (sym whole) (name_short m sound))
content ConfigurationText m b sound whole = then {a = take 2 m} refl (text-content m b (text_length (take 4 (drop 2 m))) refl whole)
content HeaderText m b sound whole = then {a = take 2 m} refl (text-content m b (text_length (take 4 (drop 2 m))) refl whole)
content Close m b sound whole = refl
content Text m b sound whole = then {a = take 2 m} refl (text-content m b (text_length (take 4 (drop 2 m))) refl whole)
content Acquisition m b sound whole =
    let h = take 340 (drop 2 m) in
    let t = acquisition.trajectory_size h in
    let samples = joined-channels (part_size Acquisition h) acquisition.cells m (acquisition.get acquisition.active-channels h) 0 (342 + t) (acquisition.channel_size h) in
    then {a = take 2 m} refl (then {a = settled (λ (p : Part). 0) acquisition.cells h} refl (then {a = take t (drop 342 m)} refl (sym samples)))
content Image m b sound whole =
    let h = take 206 (drop 2 m) in
    then {a = take 2 m} refl (image_content (part_length (contents_of Image m)) (part_size Image h) m b (image.attribute_length h) (image.pixels_size h) refl whole refl refl)
content (Waveform l) m b sound whole =
    let n = waveform.header_bytes l in
    let h = take n (drop 2 m) in
    then {a = take 2 m} refl
    (then {a = settled (λ (p : Part). 0) (waveform.cells l) h} refl (last (take (waveform.body_size l h) (drop (2 + n) m))))

-- a message's id is its kind's
id-bytes : {rules : Rules} (m : List ℕ) → Bytes m → (w : WellFormed rules m) → to_bytes 2 (id_of w.kind) ≡ take 2 m
id-bytes {rules} m b w =
    ap (to_bytes 2) (sym (known-id rules (id_at m) w.known)) ∙ write_num 2 m 0 b (omega (arith, well-least m w))

-- a message made again of its own header and parts is its normal form
pub rewritten_normal : {rules : Rules} (m : List ℕ) → Bytes m → (w : WellFormed rules m) → message_of w.kind (contents_of w.kind m) ≡ normal_of w.kind m
unfolding message_of
rewritten_normal m b w = then (id-bytes m b w) refl ∙ content w.kind m b w.sound w.whole

-- a header is its fields, written, once the true lengths are put in: the cells of n bytes, at the front of a fixed part of z
fields-written : (l : Part → ℕ) (m : List ℕ) → Bytes m → (n z : ℕ) (cs : List Cell) → lawful 0 n cs ≡ true → n ≤ z → 2 + z ≤ length m →
    settled l cs (written cs (values cs (take z (drop 2 m)))) ≡ settled l cs (take n (drop 2 m))
fields-written l m b n z cs p within long =
    let h = take z (drop 2 m) in
    let size : length h ≡ z = part_length_lem m 2 z long in
    let front : SameFields cs h (take n (drop 2 m)) =
    front-fields n cs h (take n (drop 2 m)) p (take-take n z (drop 2 m) within ∙ sym (take-take n n (drop 2 m) (omega arith))) in
    settled_same l cs (written cs (values cs h)) h (written-fields n cs h p (bytes_take z (drop 2 m) (bytes_drop 2 m b)) (omega arith)) ∙
    settled_same l cs h (take n (drop 2 m)) front

header_again : (l : Part → ℕ) (k : Kind) (m : List ℕ) → Bytes m → 2 + fixed_size k ≤ length m →
    settled l (form_of k).cells (written (form_of k).cells (fields_of k (fixed_part k m))) ≡ settled l (form_of k).cells (contents_of k m).header
unfolding fields_of fixed_part contents_of extent_of
header_again l ConfigurationName m b long = refl
header_again l ConfigurationText m b long = refl
header_again l HeaderText m b long = refl
header_again l Close m b long = refl
header_again l Text m b long = refl
header_again l Acquisition m b long = fields-written l m b 340 340 acquisition.cells acquisition-lawful (omega arith) long
header_again l Image m b long = fields-written l m b 198 206 image.cells image_lawful (omega arith) long
header_again z (Waveform l) m b long =
    fields-written z m b (waveform.header_bytes l) (waveform.header_bytes l) (waveform.cells l) (waveform-lawful l) (omega arith) long

-- headers that are the same once the true lengths are put in make the same message of the same parts
settled-message : (k : Kind) (g h : List ℕ) (ps : Parts) →
    settled (part_length (record { header = g; parts = ps })) (form_of k).cells g ≡ settled (part_length (record { header = g; parts = ps })) (form_of k).cells h →
    message_of k (record { header = g; parts = ps }) ≡ message_of k (record { header = h; parts = ps })
unfolding message_of bytes_after_id fixed_of body_of
settled-message k g h ps e =
    let z = part_length (record { header = g; parts = ps }) in
    ap (λ (x : List ℕ).
    let c : Contents = record { header = x; parts = ps } in
    let fixed = segments_bytes z c (form_of k).fixed_segments in
    to_bytes 2 (id_of k) ++ (fixed ++ segments_bytes z c ((form_of k).body_segments fixed))) e

-- what its record is written as is its normal form too: records that are equal have one set of bytes
pub record_writes : {rules : Rules} (m : List ℕ) → Bytes m → (w : WellFormed rules m) → bytes_of (record_of w.kind m) ≡ normal_of w.kind m
unfolding bytes_of record_of
record_writes m b w =
    let k = w.kind in
    settled-message k (written (form_of k).cells (fields_of k (fixed_part k m))) (contents_of k m).header (contents_of k m).parts
    (header_again _ k m b (well-least m w)) ∙
    rewritten_normal m b w
