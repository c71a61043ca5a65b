-- One well-formed message and its normal form: the message with the bytes after its name made zero, with the true length or zeros for filler in its
-- header, or as it is.
-- Assumes nothing.
use Rattle.std.specs.Prelude.{ℕ, ◌+◌, ◌-◌, ◌^◌, ◌≤◌, ◌<◌, ◌≡◌, replicate}
use Rattle.std.proofs.Common.{le_of_eq, ◌∙◌}
use native.Mathlib.Omega.{arith}
use Rattle.std.proofs.Math.Path.{sym, ap}
use mathlib.Core.List.{List, [], ◌++◌, append-nil}
use Rattle.std.proofs.Math.ListN.{length, take, drop, length-drop, length-replicate, drop_of_length-le}
use Rattle.std.proofs.Math.Seq.{length-take-le, take-length}
use Rattle.mrd_numbers.specs.Little.{to_bytes}
use Rattle.mrd_numbers.specs.Stored.{stored}
use Rattle.mrd_format.specs.declared.rules.Layout.{Layout}
use Rattle.mrd_format.specs.declared.rules.Rules.{Rules}
use Rattle.mrd_format.specs.declared.kind.Kind.{Kind}
use Rattle.mrd_format.specs.declared.kind.Kind.TheVariants.{ConfigurationName, Image, Waveform}
use Rattle.mrd_format.specs.Kinds.{fixed_size}
use Rattle.mrd_format.specs.Image.{attribute_length}
use Rattle.mrd_format.specs.Waveform.{header_bytes, cleared}
use Rattle.mrd_format.specs.Message.{limit, fixed_part, name_length, body_size, size_of}
use Rattle.mrd_format.specs.WellFormed.{WellFormed}
use Rattle.mrd_format.specs.MessageLaws.{well-least}
use Rattle.mrd_format.specs.Content.{normal_of}
use Rattle.mrd_format.specs.Normalised.{name_bytes}
use Rattle.mrd_format.proofs.NormalLaws.{name_short, name-ends, well-normalised}
use Rattle.mrd_format.proofs.ImageLaws.{image_normal}
use Rattle.mrd_format.proofs.WaveformLaws.{waveform-normal, cleared-long}

-- m is a well-formed message of kind k, by some rules
abbrev pub MessageOf : Kind → List ℕ → Type 0
MessageOf k m = (rules : Rules) × (w : WellFormed rules m) × (w.kind ≡ k)

module _ (k : Kind) (m : List ℕ) (it : MessageOf k m) where
  -- it has its kind's size, within the limit
  pub its-size : size_of k (fixed_part k m) ≡ length m
  its-size = rw it.2 at it.1.whole

  its-limit : size_of k (fixed_part k m) ≤ limit
  its-limit = rw it.2 at it.1.small

  pub its-least : 2 + fixed_size k ≤ length m
  its-least = rw it.2 at (well-least m it.1)

  pub normal-length : length (normal_of k m) ≡ length m
  normal-length = rw it.2 at (well-normalised m it.1).long

  its-fixed : length (fixed_part k m) ≡ fixed_size k
  unfolding fixed_part
  its-fixed = length-take-le (fixed_size k) (drop 2 m) (simp length-drop (omega (arith, its-least)))

  -- a configuration name's normal form has zeros after the name
  pub name-cleared : k ≡ ConfigurationName →
      normal_of k m ≡ stored (2 + name_length (fixed_part k m)) (replicate (1024 - name_length (fixed_part k m)) 0) m
  unfolding stored size_of body_size
  name-cleared e =
      let n = name_length (name_bytes m) in
      let whole : length m ≡ 1026 = sym (rw e at its-size) in
      let short : n < 1024 = name_short m (rw (it.2 ∙ e) at it.1.sound) in
      let end : 2 + n + (1024 - n) ≡ 1026 = omega arith in
      let none : drop 1026 m ≡ [] = drop_of_length-le m (le_of_eq whole) in
      rw (e, length-replicate {A = ℕ} (1024 - n) 0, end, none, append-nil) (name-ends m whole short)

  -- an image's has the true length in its header, which four bytes hold
  pub image-cleaned : k ≡ Image → normal_of k m ≡ stored 196 (to_bytes 4 (attribute_length (fixed_part k m))) m
  image-cleaned e = rw e (image_normal m (rw e at its-size))

  pub length-small : k ≡ Image → attribute_length (fixed_part k m) < 2 ^ 32
  unfolding size_of body_size
  length-small e = rw e (omega (arith, rw e at its-limit))

  -- a waveform's has zeros for the filler of its header
  pub waveform-cleared : {l : Layout} → k ≡ Waveform l → normal_of k m ≡ stored 2 (cleared l (take (header_bytes l) (drop 2 m))) m
  unfolding stored fixed_part
  waveform-cleared {l} e =
      let h = take (header_bytes l) (drop 2 m) in
      let least : 2 + header_bytes l ≤ length m = rw e at its-least in
      let long : length (cleared l h) ≡ header_bytes l =
      cleared-long l h (length-take-le (header_bytes l) (drop 2 m) (simp length-drop (omega (arith, least)))) in
      rw (e, long) (waveform-normal l m (rw e at its-size))

-- a copy of all of m over as many bytes is m
pub copied-whole : (m o : List ℕ) → length o ≡ length m → take (length m) m ++ drop (length m) o ≡ m
copied-whole m o e = rw (take-length, drop_of_length-le o (le_of_eq e), append-nil)

-- what is known of the fixed part h of m and of a copy x of m, before the copy is cleaned
module _ (k : Kind) (m : List ℕ) (it : MessageOf k m) {h x : List ℕ} (fixed : h ≡ fixed_part k m) (copied : x ≡ m) where
  pub name-ready : k ≡ ConfigurationName → (length h ≡ 1024) × (length x ≡ 1026)
  unfolding size_of body_size
  name-ready e =
      (ap length fixed ∙ its-fixed k m it ∙ ap fixed_size e, ap length copied ∙ sym (rw e at (its-size k m it)))

  pub image-ready : k ≡ Image → (length h ≡ 206) × (208 ≤ length x) × (attribute_length h < 2 ^ 32)
  image-ready e =
      let least : 208 ≤ length m = rw e at (its-least k m it) in
      (ap length fixed ∙ its-fixed k m it ∙ ap fixed_size e, rw copied least, rw fixed (length-small k m it e))

  -- and what it is then
  pub name_done : k ≡ ConfigurationName → {y : List ℕ} → y ≡ stored (2 + name_length h) (replicate (1024 - name_length h) 0) x → y ≡ normal_of k m
  name_done e p = p ∙ rw (fixed, copied) (sym (name-cleared k m it e))

  pub image-done : k ≡ Image → {y : List ℕ} → y ≡ stored 196 (to_bytes 4 (attribute_length h)) x → y ≡ normal_of k m
  image-done e p = p ∙ rw (fixed, copied) (sym (image-cleaned k m it e))

-- the same of a waveform, whose layout is all that is needed to clean it
module _ (k : Kind) (m : List ℕ) (it : MessageOf k m) {x : List ℕ} (copied : x ≡ m) {l : Layout} (e : k ≡ Waveform l) where
  pub waveform-ready : 2 + header_bytes l ≤ length x
  waveform-ready = rw copied (rw e at (its-least k m it))

  pub waveform-done : {y : List ℕ} → y ≡ stored 2 (cleared l (take (header_bytes l) (drop 2 x))) x → y ≡ normal_of k m
  waveform-done p = p ∙ rw copied (sym (waveform-cleared k m it e))
