-- What the writer refuses before it looks at the output: 'The writer: 2 to 10 in order, then 18, 14', without 2 and 14. These checks go by the
-- kind, the given header, the given name and the given parts' lengths.
-- Assumes nothing.
use Rattle.std.specs.Prelude.{ℕ, ◌+◌, Bool, false, not, ◌||◌, ◌&&◌, List, [], ◌∷◌, ◌++◌, eqb, ltb, length, Result}
use Rattle.mrd_bytes.specs.Bytes.{index_of}
use Rattle.mrd_format.specs.declared.kind.Kind.{Kind}
use Rattle.mrd_format.specs.declared.refusal.Refusal.{Refusal}
use Rattle.mrd_format.specs.Refusals.{answer_in}
use Rattle.mrd_format.specs.Kinds.{form_of, fixed_size, header_size}
use Rattle.mrd_format.specs.Parts as part
use Rattle.mrd_format.specs.Parts.{Part, same, by_part, Contents, part_length, contents}
use Rattle.mrd_format.specs.Segments.{Segment, fixed, counted, padded, sized, channels, reach_size, reach_from}
use Rattle.mrd_logic.specs.Choice.{pick}
use Rattle.mrd_logic.specs.Lists.{equal}
use Rattle.mrd_logic.specs.Checks.{Check, ◌when◌, first, unless, without}
use Rattle.mrd_logic.specs.Answer.{Answer, answered, number}
use Rattle.mrd_format.specs.Message.{limit, own_checks}
use Rattle.mrd_format.specs.Content.{fixed_by}
use Rattle.mrd_write_checks.specs.declared.lengths.Lengths.{Lengths}

-- 'writer: name over 1,023 bytes or holding a zero'
unfoldable pub name_unfit : List ℕ → Bool
name_unfit name = ltb 1023 (length name) || ltb (index_of 0 name) (length name)

abbrev pub part_lengths : (name text trajectory samples attributes pixels waveform : ℕ) → Lengths
part_lengths n t j s a p w =
    record { name = n; text = t; trajectory = j; samples = s; attributes = a; pixels = p; waveform = w }

-- a length for each part, by its name
abbrev pub lengths_by : (Part → ℕ) → Lengths
lengths_by f =
    part_lengths (f part.name) (f part.text) (f part.trajectory) (f part.samples) (f part.attributes) (f part.pixels) (f part.waveform)

-- the seven lengths, one after the other
abbrev pub length_list : Lengths → List ℕ
length_list n = n.name ∷ n.text ∷ n.trajectory ∷ n.samples ∷ n.attributes ∷ n.pixels ∷ n.waveform ∷ []

-- the lengths of the seven given parts
abbrev pub lengths_of : Contents → Lengths
lengths_of c = lengths_by (part_length c)

-- one of the lengths, by its part's name
abbrev pub length_in : Lengths → Part → ℕ
length_in n p = by_part 0 n.name n.text n.trajectory n.samples n.attributes n.pixels n.waveform p

-- whether the writer takes a part's length from the given bytes: 'it works out a text's length and an image's 8-byte length', and a name's
abbrev pub counts : Part → List Segment → Bool
counts p [] = false
counts p (fixed n ∷ ss) = counts p ss
counts p (counted w q ∷ ss) = same p q || counts p ss
counts p (padded n ∷ ss) = same p part.name || counts p ss
counts p (sized q n ∷ ss) = counts p ss
counts p (channels c n ∷ ss) = counts p ss

-- the length that a part given with n bytes must have: its own, or 'what its header says', or 0 for 'a part its kind lacks'
abbrev pub due_length : Kind → List ℕ → Part → ℕ → ℕ
due_length k h p n = pick (counts p (form_of k).fixed_segments) n (reach_size (reach_from p h 0 ((form_of k).body_segments h)))

-- the lengths that all parts must have
unfoldable pub due_lengths : Kind → List ℕ → Lengths → Lengths
due_lengths k h n = lengths_by (λ (p : Part). due_length k h p (length_in n p))

-- the fixed part that is made of the given header h and name, and of parts with the given lengths n, whose bytes are not asked for
unfoldable pub given_fixed : Kind → (h name : List ℕ) → Lengths → List ℕ
given_fixed k h name n = fixed_by k (length_in n) (contents h name [] [] [] [] [] [])

-- the checks of a fixed part that the writer makes: it 'gives no 9'
abbrev pub of_writer : List Check → List Check
of_writer cs = without 9 cs

-- checks 4 to 8 'in number order where they apply': those of that fixed part, which has the true length in an image's header ('the writer disregards
-- what the header holds there'), and beside them the writer's own of a name
unfoldable pub given_own_checks : Kind → (h name : List ℕ) → Lengths → List Check
given_own_checks k h name n =
    (5 when (counts part.name (form_of k).fixed_segments && name_unfit name)) ∷ of_writer (own_checks k (given_fixed k h name n))

-- the parts after a fixed part, together
abbrev pub body_length : Lengths → ℕ
body_length n = n.text + (n.trajectory + (n.samples + (n.attributes + (n.pixels + n.waveform))))

-- the 'whole message, id included', 'by the header's numbers and the lent text's or attributes' length'
unfoldable pub given_size : Kind → List ℕ → Lengths → ℕ
given_size k h n = 2 + fixed_size k + body_length (due_lengths k h n)

-- whether each part has the length that it must have
unfoldable pub same_lengths : Lengths → Lengths → Bool
same_lengths m n = equal (length_list m) (length_list n)

-- checks 4 to 10 of what is given with a header of its kind's length
unfoldable pub sized_checks : Kind → (h name : List ℕ) → Lengths → List Check
sized_checks k h name n = given_own_checks k h name n ++ ((10 when ltb limit (given_size k h n)) ∷ [])

-- every check of what is given for a message of kind k: 3, 'header bytes not as long as the kind's fixed header', 4 to 10, then 18
unfoldable pub given_checks : Kind → (h name : List ℕ) → Lengths → List Check
given_checks k h name n =
    (3 when not (eqb (length h) (header_size k))) ∷
    sized_checks k h name n ++ ((18 when not (same_lengths n (due_lengths k h n))) ∷ [])

-- what the judge's answer says: the size of the message, or 'the number alone'
abbrev pub judged_meaning : Result ℕ Refusal → Answer ℕ
judged_meaning r = answer_in (λ z. z) r

-- what is given, judged: the size of its message, or the first refusal
unfoldable pub judged : Kind → (h name : List ℕ) → Lengths → Answer ℕ
judged k h name n = unless (first (given_checks k h name n)) number (answered (given_size k h n))
