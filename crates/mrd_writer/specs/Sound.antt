-- What is given passes every check but 14: what that says of its parts.
-- Assumes nothing.
use Rattle.std.specs.Prelude.{ℕ, ◌≤◌, ◌≡◌, true, List, length, get_or}
use Rattle.std.proofs.Common.{arith, ap, eqb-true, ltb-false}
use Rattle.std.proofs.lemmas.Bool.{not-false}
use Rattle.mrd_logic.specs.Every.{Every, every_split}
use Rattle.mrd_logic.specs.ListLaws.{equal-same}
use Rattle.mrd_logic.specs.Answer.{answered}
use Rattle.mrd_logic.specs.Checks.{first, Passed}
use Rattle.mrd_logic.specs.CheckLaws.{first-passed}
use Rattle.mrd_format.specs.declared.kind.Kind.{Kind}
use Rattle.mrd_format.specs.Kinds.{header_size}
use Rattle.mrd_format.specs.Message.{limit}
use Rattle.mrd_format.specs.Parts.{Contents}
use Rattle.mrd_write_checks.specs.declared.lengths.Lengths.{Lengths}
use Rattle.mrd_write_checks.specs.WriteChecks.{given_own_checks, body_length, given_size, part_lengths, length_list, lengths_of, due_lengths, same_lengths, sized_checks, given_checks, judged}
use Rattle.mrd_write_checks.specs.GivenLaws.{unless-answered, given-numbered}
use Rattle.mrd_writer.specs.Write.{judged_contents, contents_size, contents_checks}

-- what is given passes checks 3 to 10 and 18
pub record Sound (k : Kind) (c : Contents) : Type 0 where
  pub header : length c.header ≡ header_size k
  pub own : Every Passed (given_own_checks k c.header c.parts.name (lengths_of c))
  pub small : contents_size k c ≤ limit
  pub lengths : lengths_of c ≡ due_lengths k c.header (lengths_of c)

-- lengths that are the same one by one
same-lengths : (m n : Lengths) → same_lengths m n ≡ true → m ≡ n
unfolding same_lengths
same-lengths m n e =
    ap (λ (l : List ℕ). part_lengths (get_or l 0 0) (get_or l 1 0) (get_or l 2 0) (get_or l 3 0) (get_or l 4 0) (get_or l 5 0) (get_or l 6 0))
    (equal-same (length_list m) (length_list n) e)

-- what every check passed says
pub passed-sound : (k : Kind) (c : Contents) → first (contents_checks k c) ≡ 0 → Sound k c
unfolding given_checks sized_checks
passed-sound k c e =
    let h = c.header in
    let n = lengths_of c in
    let all = first-passed (contents_checks k c) (given-numbered k h c.parts.name n) e in
    let parted = every_split Passed (sized_checks k h c.parts.name n) _ all.1 in
    let sized = every_split Passed (given_own_checks k h c.parts.name n) _ parted.0 in
    record {
      header = eqb-true (length h) (header_size k) (not-false _ all.0);
      own = sized.0;
      small = ltb-false limit (given_size k h n) sized.1.0;
      lengths = same-lengths n (due_lengths k h n) (not-false _ parted.1.0);
    }

-- what is given is judged to make a message of size z where no check refuses
pub judged-answered : (k : Kind) (c : Contents) {z : ℕ} → judged_contents k c ≡ answered z → (first (contents_checks k c) ≡ 0) × (contents_size k c ≡ z)
unfolding judged
judged-answered k c e = unless-answered (first (contents_checks k c)) (contents_size k c) e

-- the parts together are within the limit
parts-small : (k : Kind) (c : Contents) → Sound k c → body_length (lengths_of c) ≤ limit
unfolding given_size
parts-small k c s = omega (arith, s.small, ap body_length s.lengths)

pub text-small : (k : Kind) (c : Contents) → Sound k c → length c.parts.text ≤ limit
text-small k c s = omega (arith, parts-small k c s)

pub attributes-small : (k : Kind) (c : Contents) → Sound k c → length c.parts.attributes ≤ limit
attributes-small k c s = omega (arith, parts-small k c s)
