-- What the size of an image and of a waveform says of their last part; a close has none.
-- Assumes nothing.
use Rattle.std.specs.Prelude.{ℕ, ◌+◌, ◌-◌, ◌≡◌, refl, List}
use Rattle.std.proofs.Common.{arith}
use Rattle.mrd_format.specs.declared.rules.Layout.{Layout}
use Rattle.mrd_format.specs.declared.kind.Kind.{Kind}
use Rattle.mrd_format.specs.Message.{size_of, body_size}
use Rattle.mrd_format.specs.Image as image
use Rattle.mrd_format.specs.Waveform as waveform
use Rattle.mrd_format.specs.Parts.{extent, lies, lacks}
use Rattle.mrd_format.specs.Content.{extent_of}
use Rattle.mrd_parts.specs.declared.parts.Part.{Part}
use Rattle.mrd_parts.specs.declared.parts.Part.TheVariants.{Name, Text, Attributes, Trajectory, Channel, Pixels, Waveform}
use Rattle.mrd_parts.specs.Sought.{part_meaning, Sized}

-- an image is its fixed part, its attributes and its pixels; a waveform is its header and its data
pub image_rest : {h : List ℕ} {z : ℕ} → Sized Kind.Image h z → z ≡ 208 + image.attribute_length h + image.pixels_size h
unfolding size_of body_size
image_rest x = omega (arith, x.size)

pub waveform-rest : {l : Layout} {h : List ℕ} {z : ℕ} → Sized (Kind.Waveform l) h z → z ≡ 2 + waveform.header_bytes l + waveform.body_size l h
unfolding size_of body_size
waveform-rest x = omega (arith, x.size)

-- so the pixels, and the data, are what is left
pub image_pixels : {h : List ℕ} {z : ℕ} → Sized Kind.Image h z → (a : ℕ) → a ≡ image.attribute_length h →
    lies (extent (208 + a) (z - 208 - a)) ≡ lies (extent (208 + image.attribute_length h) (image.pixels_size h))
image_pixels {h} {z} x a e =
    let left : z - 208 - image.attribute_length h ≡ image.pixels_size h = omega (arith, image_rest x) in
    rw (e, left)

pub waveform_data : {l : Layout} {h : List ℕ} {z : ℕ} → Sized (Kind.Waveform l) h z → (a : ℕ) → a ≡ waveform.header_bytes l →
    lies (extent (2 + a) (z - (2 + a))) ≡ lies (extent (2 + waveform.header_bytes l) (waveform.body_size l h))
waveform_data {l} {h} {z} x a e =
    let left : z - (2 + waveform.header_bytes l) ≡ waveform.body_size l h = omega (arith, waveform-rest x) in
    rw (e, left)

-- a close has none of the parts that a view can show
pub close_lacks : (p : Part) (h : List ℕ) → extent_of (part_meaning p) Kind.Close h ≡ lacks
unfolding extent_of
close_lacks Name h = refl
close_lacks Text h = refl
close_lacks Attributes h = refl
close_lacks Trajectory h = refl
close_lacks (Channel c) h = refl
close_lacks Pixels h = refl
close_lacks Waveform h = refl
