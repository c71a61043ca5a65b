-- Worked examples, all by computation: the RFC's own texts, and the first and last octets that each of its rules lets pass and refuses.
-- Assumes nothing.
use Rattle.std.specs.Prelude.{ℕ, ◌≡◌, refl, true, false, List, [], ◌∷◌, map, replicate}
use Rattle.mrd_utf8.specs.Fold.{begun, next, utf8_of}

texts : List (List ℕ)
texts =
    [] ∷
    -- section 7: 'A<NOT IDENTICAL TO><ALPHA>.', 'hangugeo', 'nihongo', a byte order mark and U+233B4
    (0x41 ∷ 0xE2 ∷ 0x89 ∷ 0xA2 ∷ 0xCE ∷ 0x91 ∷ 0x2E ∷ []) ∷
    (0xED ∷ 0x95 ∷ 0x9C ∷ 0xEA ∷ 0xB5 ∷ 0xAD ∷ 0xEC ∷ 0x96 ∷ 0xB4 ∷ []) ∷
    (0xE6 ∷ 0x97 ∷ 0xA5 ∷ 0xE6 ∷ 0x9C ∷ 0xAC ∷ 0xE8 ∷ 0xAA ∷ 0x9E ∷ []) ∷
    (0xEF ∷ 0xBB ∷ 0xBF ∷ 0xF0 ∷ 0xA3 ∷ 0x8E ∷ 0xB4 ∷ []) ∷
    -- U+0000 and U+007F, U+0080 and U+07FF, U+0800 and U+FFFF, U+10000 and U+10FFFF: the first and the last of each length
    (0x00 ∷ []) ∷
    (0x7F ∷ []) ∷
    (0xC2 ∷ 0x80 ∷ []) ∷
    (0xDF ∷ 0xBF ∷ []) ∷
    (0xE0 ∷ 0xA0 ∷ 0x80 ∷ []) ∷
    (0xEF ∷ 0xBF ∷ 0xBF ∷ []) ∷
    (0xF0 ∷ 0x90 ∷ 0x80 ∷ 0x80 ∷ []) ∷
    (0xF4 ∷ 0x8F ∷ 0xBF ∷ 0xBF ∷ []) ∷
    -- U+D7FF and U+E000, on either side of the surrogates
    (0xED ∷ 0x9F ∷ 0xBF ∷ []) ∷
    (0xEE ∷ 0x80 ∷ 0x80 ∷ []) ∷
    -- U+FFFE: the syntax has no rule against a noncharacter
    (0xEF ∷ 0xBF ∷ 0xBE ∷ []) ∷
    []

texts-accepted : map utf8_of texts ≡ replicate 16 true
unfolding utf8_of next begun texts
texts-accepted = refl

others : List (List ℕ)
others =
    -- U+0000, U+007F, U+07FF and U+FFFF with more octets than they need
    (0xC0 ∷ 0x80 ∷ []) ∷
    (0xC1 ∷ 0xBF ∷ []) ∷
    (0xE0 ∷ 0x9F ∷ 0xBF ∷ []) ∷
    (0xF0 ∷ 0x8F ∷ 0xBF ∷ 0xBF ∷ []) ∷
    -- the surrogates U+D800 and U+DFFF
    (0xED ∷ 0xA0 ∷ 0x80 ∷ []) ∷
    (0xED ∷ 0xBF ∷ 0xBF ∷ []) ∷
    -- U+110000, and octets that begin no character
    (0xF4 ∷ 0x90 ∷ 0x80 ∷ 0x80 ∷ []) ∷
    (0xF5 ∷ 0x80 ∷ 0x80 ∷ 0x80 ∷ []) ∷
    (0xFE ∷ []) ∷
    (0xFF ∷ []) ∷
    (0x80 ∷ []) ∷
    (0x41 ∷ 0xBF ∷ []) ∷
    -- a tail too many, and a letter where a tail is due
    (0xC3 ∷ 0xA9 ∷ 0xA9 ∷ []) ∷
    (0xC3 ∷ 0x41 ∷ []) ∷
    -- characters cut at the end
    (0xC3 ∷ []) ∷
    (0xE2 ∷ 0x89 ∷ []) ∷
    (0xF0 ∷ 0xA3 ∷ 0x8E ∷ []) ∷
    []

others-refused : map utf8_of others ≡ replicate 17 false
unfolding utf8_of next begun others
others-refused = refl
