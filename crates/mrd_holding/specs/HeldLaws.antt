-- The parts of a message adjoin, so whichever holds a byte is the one told; channel by channel, too.
-- Assumes nothing.
use Rattle.std.specs.Prelude.{ℕ, zero, suc, ◌+◌, ◌-◌, ◌*◌, ◌/◌, ◌≤◌, ◌<◌, ◌≡◌, refl, Bool, true, false, List, Option}
use Rattle.std.proofs.Common.{zero-add, zero-mul, mul-zero, suc-mul, div-mul-le_self, div-lt_iff_lt-mul, arith, sym, ◌∙◌}
use Rattle.std.proofs.Math.Nat.{lt-div-mul-add}
use Rattle.mrd_logic.specs.Answer.{Answer, answered, stream, number, and_then}
use Rattle.mrd_logic.specs.AnswerLaws.{answered-not-number, answered-not-stream}
use Rattle.mrd_logic.specs.Choice.{pick}
use Rattle.mrd_logic.specs.Lists.{Nth}
use Rattle.mrd_format.specs.declared.kind.Kind.{Kind}
use Rattle.mrd_format.specs.Kinds.{fixed_size, header_size}
use Rattle.mrd_format.specs.Message.{size_of, body_size}
use Rattle.mrd_format.specs.Texts.{text_length}
use Rattle.mrd_format.specs.Acquisition.{get, active-channels, trajectory_size, channel_size}
use Rattle.mrd_format.specs.Parts.{Part, channel, header, same, extent}
use Rattle.mrd_format.specs.Segments.{PlacedPart, placed_part, channels_from}
use Rattle.mrd_format.specs.Content.{placed_parts}
use Rattle.mrd_format.specs.Holding.{holds, holding}
use Rattle.mrd_format.proofs.ReachLaws.{parts-adjoin}
use Rattle.mrd_format.proofs.HoldingLaws.{holds_true, found-held, found-there}
use Rattle.mrd_element.specs.declared.byte.ElementPlace.{ElementPlace}
use Rattle.mrd_element.specs.Pieces.{header_byte_of}
use Rattle.mrd_parts.specs.Sought.{Sized}
use Rattle.mrd_parts.specs.PartLaws.{image_rest, waveform-rest}
use Rattle.mrd_holding.specs.Held.{Past, Held, whole, in_header, told_as, told, part_holding}

-- byte `at` of a message of kind k with the fixed part h, of z bytes
module _ (k : Kind) (h : List ℕ) (z at : ℕ) (s : Sized k h z) where
  found_part : (n : ℕ) (p : Part) (o w : ℕ) → Nth (placed_parts k h) n (placed_part p o w) → o ≤ at → at < o + w →
      holding (λ (q : PlacedPart). q.place) (placed_parts k h) at ≡ answered (placed_part p o w)
  found_part n p o w there low high =
      found-held (λ (q : PlacedPart). q.place) (placed_parts k h) 0 _ at n (placed_part p o w) (parts-adjoin k h s.long) there
      (holds_true (extent o w) at low high)

  -- a part that is no header
  pub part-told : (n : ℕ) (p : Part) (o w : ℕ) → Nth (placed_parts k h) n (placed_part p o w) → same p header ≡ false → o ≤ at → at < o + w →
      answered (told_as p o w whole) ≡ part_holding k h at
  unfolding part_holding
  part-told n p o w there other low high = rw (found_part n p o w there low high, other)

  -- a header, and what of it the byte belongs to
  pub header-told : (n : ℕ) (o w : ℕ) (b : Option ElementPlace) → Nth (placed_parts k h) n (placed_part header o w) → o ≤ at → at < o + w →
      answered b ≡ header_byte_of k (at - o) → answered (told_as header o w (in_header b)) ≡ part_holding k h at
  unfolding part_holding
  header-told n o w b there low high piece = rw (found_part n header o w there low high, ← piece)

-- channel b + c, of n from channel b on, each of z bytes, the first at `at`
channel-there : (n c b at z : ℕ) → c < n → Nth (channels_from n b at z) c (placed_part (channel (b + c)) (at + c * z) z)
channel-there zero c b at z l = absurd (omega arith)
channel-there (suc n) zero b at z l =
    let same : b + 0 ≡ b = omega arith in
    let here : at + 0 * z ≡ at = omega (arith, zero-mul z) in
    rw (same, here)
channel-there (suc n) (suc c) b at z l =
    let next : b + suc c ≡ suc b + c = omega arith in
    let further : at + suc c * z ≡ at + z + c * z = omega (arith, suc-mul c z) in
    rw (next, further) (channel-there n c (suc b) (at + z) z (omega arith))

-- an acquisition is its header, its trajectory and its channels
acquisition-rest : {h : List ℕ} {z : ℕ} → Sized Kind.Acquisition h z → z ≡ 342 + trajectory_size h + get active-channels h * channel_size h
unfolding size_of body_size
acquisition-rest x = omega (arith, x.size)

-- a byte `at` of an acquisition past its trajectory
module _ (h : List ℕ) (z at : ℕ) (x : Past Kind.Acquisition h z at) (far : 342 + trajectory_size h ≤ at) where
  abbrev first : ℕ
  first = 342 + trajectory_size h

  abbrev each : ℕ
  each = channel_size h

  -- a channel has bytes
  pub channel-some : 0 < each
  channel-some = by each refl
    where
      by : (n : ℕ) → each ≡ n → 0 < n
      by zero e = absurd (omega (arith, rw (e, mul-zero) at (acquisition-rest x.sized), x.high, far))
      by (suc n) e = omega arith

  -- it lies in the channel that its distance from the first one says
  abbrev pub channel_here : ℕ
  channel_here = (at - first) / each

  channel-active : channel_here < get active-channels h
  channel-active = (div-lt_iff_lt-mul channel-some).1 (omega (arith, acquisition-rest x.sized, x.high, far))

  pub channel-low : first + channel_here * each ≤ at
  channel-low = omega (arith, div-mul-le_self (at - first) each)

  channel-high : at < first + channel_here * each + each
  channel-high = omega (arith, lt-div-mul-add {a = at - first} channel-some)

  pub channel-told : answered (told_as (channel channel_here) (first + channel_here * each) each whole) ≡ part_holding Kind.Acquisition h at
  channel-told =
      let there = rw zero-add at (channel-there (get active-channels h) channel_here 0 first each channel-active) in
      part-told Kind.Acquisition h z at x.sized (suc (suc (suc channel_here))) (channel channel_here) (first + channel_here * each) each there refl channel-low channel-high

-- a name takes 1,024 bytes, whatever of them it fills; a text is its length and its bytes
pub name-rest : {h : List ℕ} {z : ℕ} → Sized Kind.ConfigurationName h z → z ≡ 1026
unfolding size_of body_size
name-rest x = omega (arith, x.size)

pub text-rest : {h : List ℕ} {z : ℕ} → Sized Kind.Text h z → z ≡ 6 + text_length h
unfolding size_of body_size
text-rest x = omega (arith, x.size)

-- what a message's size is made of
pub ruleset sizes = (name-rest, text-rest, image_rest, waveform-rest)

-- a kind with a header has it after the id
header-there : (k : Kind) (h : List ℕ) → 0 < header_size k → Nth (placed_parts k h) 1 (placed_part header 2 (header_size k))
header-there Kind.ConfigurationName h some = absurd (omega arith)
header-there Kind.ConfigurationText h some = absurd (omega arith)
header-there Kind.HeaderText h some = absurd (omega arith)
header-there Kind.Close h some = absurd (omega arith)
header-there Kind.Text h some = absurd (omega arith)
header-there Kind.Acquisition h some = refl
header-there Kind.Image h some = refl
header-there (Kind.Waveform l) h some = refl

pub in_header_lem : (k : Kind) (h : List ℕ) (z at : ℕ) → Sized k h z → 2 ≤ at → at - 2 < header_size k → (b : Option ElementPlace) → answered b ≡ header_byte_of k (at - 2) →
    answered (told_as header 2 (header_size k) (in_header b)) ≡ part_holding k h at
in_header_lem k h z at s low high b piece = header-told k h z at s 1 2 (header_size k) b (header-there k h (omega arith)) low (omega arith) piece

-- a close is an id alone
pub close_ends : {h : List ℕ} {z at : ℕ} → Past Kind.Close h z at → ⊥
unfolding size_of body_size
close_ends x = omega (arith, x.sized.size, x.low, x.high)

-- a byte past id and header
pub past-both : {k : Kind} {h : List ℕ} {z at n : ℕ} → Sized k h z × (at < z) → 2 ≤ at → n ≡ header_size k → n ≤ at - 2 → Past k h z at
past-both s low same far = record { sized = s.0; low = omega arith; high = s.1 }

-- what is asked of a kind that is made as a text is asked of a text
pub text-past : {k : Kind} (h : List ℕ) {z at : ℕ} → fixed_size k ≡ fixed_size Kind.Text → size_of k h ≡ size_of Kind.Text h → header_size k ≡ header_size Kind.Text →
    Past k h z at → Past Kind.Text h z at
text-past h long size head x =
    record {
      sized = record { long = x.sized.long ∙ long; size = x.sized.size ∙ size; small = x.sized.small };
      low = omega (arith, x.low, head);
      high = x.high;
    }

-- what is told of a byte is the part that it was told of
pub told_same : (k : Kind) (at : ℕ) (p : PlacedPart) {q : Held} → told k at p ≡ answered q → (q.part ≡ p.part) × (q.place ≡ p.place)
told_same k at p {q} e = by (same p.part header) (header_byte_of k (at - p.place.offset)) e
  where
    by : (t : Bool) (a : Answer (Option ElementPlace)) →
        pick t (and_then a (λ b. answered (record { part = p.part; place = p.place; inner = in_header b }))) (answered (record { part = p.part; place = p.place; inner = whole })) ≡ answered q →
        (q.part ≡ p.part) × (q.place ≡ p.place)
    by true (answered b) e = (cc, cc)
    by true (stream f r b) e = absurd (answered-not-stream (sym e))
    by true (number n) e = absurd (answered-not-number (sym e))
    by false a e = (cc, cc)

-- it is one of the message's, and holds the byte
pub held-there : (k : Kind) (h : List ℕ) (at : ℕ) {q : Held} → part_holding k h at ≡ answered q →
    (n : ℕ) × (Nth (placed_parts k h) n (record { part = q.part; place = q.place }) × (holds q.place at ≡ true))
unfolding part_holding
held-there k h at {q} e = by (holding (λ (p : PlacedPart). p.place) (placed_parts k h) at) refl e
  where
    by : (a : Answer PlacedPart) → holding (λ (p : PlacedPart). p.place) (placed_parts k h) at ≡ a → and_then a (told k at) ≡ answered q →
        (n : ℕ) × (Nth (placed_parts k h) n (record { part = q.part; place = q.place }) × (holds q.place at ≡ true))
    by (answered p) f e =
        let there = found-there (λ (p : PlacedPart). p.place) (placed_parts k h) at f in
        let same = told_same k at p e in
        (there.0, (rw (same.0, same.1) there.1.0, rw same.1 there.1.1))
    by (stream f r b) g e = absurd (answered-not-stream (sym e))
    by (number n) g e = absurd (answered-not-number (sym e))
