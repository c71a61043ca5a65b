-- The messages without a header: a name, a text of any of the three kinds, and the close.
-- Assumes nothing.
use Rattle.std.specs.Prelude.{ℕ, List, [], ◌∷◌, leb}
use Rattle.mrd_numbers.specs.Little.{num}
use Rattle.mrd_logic.specs.Checks.{◌when◌}
use Rattle.mrd_format.specs.Parts.{text}
use Rattle.mrd_format.specs.Segments.{padded, counted, sized, name_length, Form}

-- 'a u32 length L', of a fixed part h
unfoldable pub text_length : List ℕ → ℕ
text_length h = num 4 h 0

-- 'no zero among the name's 1,024 bytes' is 5
abbrev pub name_form : Form
name_form =
    record {
      cells = [];
      fixed_segments = padded 1024 ∷ [];
      body_segments = λ h. [];
      checks = λ h. (5 when leb 1024 (name_length h)) ∷ [];
      numbers = λ h. name_length h ∷ [];
      counter = λ h. 0;
      uid = λ h. 0;
    }

-- '4, a u32 length L', then 'L bytes'
abbrev pub text_form : Form
text_form =
    record {
      cells = [];
      fixed_segments = counted 4 text ∷ [];
      body_segments = λ h. sized text (text_length h) ∷ [];
      checks = λ h. [];
      numbers = λ h. text_length h ∷ [];
      counter = λ h. 0;
      uid = λ h. 0;
    }

abbrev pub close_form : Form
close_form =
    record {
      cells = [];
      fixed_segments = [];
      body_segments = λ h. [];
      checks = λ h. [];
      numbers = λ h. [];
      counter = λ h. 0;
      uid = λ h. 0;
    }
