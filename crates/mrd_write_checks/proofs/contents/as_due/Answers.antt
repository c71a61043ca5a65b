-- `mrd_write_checks::contents::as_due` meets its contract: each kind compares with the lengths of the definition, what the header says by the size.
-- Assumes nothing.
use native.Mathlib.Omega.{arith}
use mathlib.Core.Path.{◌≡◌, refl, sym, ap, ◌∙◌}
use mathlib.Core.Bool.{◌&&◌, and-true}
use mathlib.Core.List.{[], ◌∷◌}
use Rattle.std.specs.Prelude.{eqb}
use Rattle.mrd_format.specs.declared.kind.Kind.{Kind}
use Rattle.mrd_write_checks.specs.declared.lengths.Lengths.{Lengths}
use Rattle.mrd_write_checks.specs.WriteChecks.{part_lengths, due_lengths, same_lengths}
use Rattle.mrd_write_checks.specs.GivenLaws.{due-acquisition, due-image, due-waveform}
use Rattle.mrd_format.proofs.Arms.{arm_same}
use Rattle.mrd_write_checks.proofs.contents.as_due.Goals as goal

-- what the derived default says: no part has a length
none : (n : Lengths) →
    (n.name ≡ 0) × ((n.text ≡ 0) × ((n.trajectory ≡ 0) × ((n.samples ≡ 0) × ((n.attributes ≡ 0) × ((n.pixels ≡ 0) × (n.waveform ≡ 0)))))) →
    n ≡ part_lengths 0 0 0 0 0 0 0
none n e = λ i. part_lengths (e.0 i) (e.1.0 i) (e.1.1.0 i) (e.1.1.1.0 i) (e.1.1.1.1.0 i) (e.1.1.1.1.1.0 i) (e.1.1.1.1.1.1 i)

-- and the derived comparison: each length is the same
compared : (m n : Lengths) →
    (eqb m.name n.name && (eqb m.text n.text && (eqb m.trajectory n.trajectory && (eqb m.samples n.samples &&
    (eqb m.attributes n.attributes && (eqb m.pixels n.pixels && eqb m.waveform n.waveform)))))) ≡ same_lengths m n
unfolding same_lengths
compared m n = simp and-true

pub overflow_sub-due : goal.overflow_sub-due
overflow_sub-due c = omega (arith, (due-acquisition _ c.args.header.now c.args.given c.requires.1 c.in-Acquisition.is).0)

pub overflow_sub-due-in-Acquisition : goal.overflow_sub-due-in-Acquisition
overflow_sub-due-in-Acquisition c =
    omega (
      arith,
      c.trajectory_size.ensures,
      (due-acquisition _ c.args.header.now c.args.given c.requires.1 c.in-Acquisition.is).0,
    )

pub overflow_sub-due-in-Image : goal.overflow_sub-due-in-Image
overflow_sub-due-in-Image c = omega (arith, (due-image _ c.args.header.now c.args.given c.requires.1 c.in-Image.is).0)

pub overflow_sub-due-in-Image-2 : goal.overflow_sub-due-in-Image-2
overflow_sub-due-in-Image-2 c = omega (arith, (due-image _ c.args.header.now c.args.given c.requires.1 c.in-Image.is).0)

pub overflow_sub-due-in-Waveform : goal.overflow_sub-due-in-Waveform
overflow_sub-due-in-Waveform c =
    omega (arith, c.header_size.ensures, (due-waveform _ c.args.header.now c.args.given c.requires.1 c.in-Waveform.is).0)

pub returns-in-ConfigurationName : goal.returns-in-ConfigurationName
unfolding due_lengths
returns-in-ConfigurationName c = rw c.in-ConfigurationName.is (rw (none _ c.default-due.ensures) at c.eq.ensures ∙ compared _ _)

pub returns-in-ConfigurationText : goal.returns-in-ConfigurationText
unfolding due_lengths
returns-in-ConfigurationText c =
    let a = c.args in
    rw (none _ c.default-due.ensures) at c.eq-in-ConfigurationText.ensures ∙ compared _ _ ∙
    ap (same_lengths a.given)
    (sym (arm_same (λ (k : Kind). due_lengths k a.header.now a.given) (part_lengths 0 a.given.text 0 0 0 0 0) (1 ∷ 2 ∷ 4 ∷ []) a.kind
    c.in-ConfigurationText.in-ConfigurationText-own.keys2 refl))

pub returns-in-Close : goal.returns-in-Close
unfolding due_lengths
returns-in-Close c = rw c.in-Close.is (rw (none _ c.default-due.ensures) at c.eq-in-Close.ensures ∙ compared _ _)

pub returns-in-Acquisition : goal.returns-in-Acquisition
returns-in-Acquisition c =
    rw (none _ c.default-due.ensures, c.trajectory_size.ensures.0) at c.eq-in-Acquisition.ensures ∙ compared _ _ ∙
    ap (same_lengths c.args.given) (due-acquisition _ c.args.header.now c.args.given c.requires.1 c.in-Acquisition.is).1

pub returns-in-Image : goal.returns-in-Image
returns-in-Image c =
    rw (none _ c.default-due.ensures) at c.eq-in-Image.ensures ∙ compared _ _ ∙
    ap (same_lengths c.args.given) (due-image _ c.args.header.now c.args.given c.requires.1 c.in-Image.is).1

pub returns-in-Waveform : goal.returns-in-Waveform
returns-in-Waveform c =
    rw (none _ c.default-due.ensures, c.header_size.ensures) at c.eq-in-Waveform.ensures ∙ compared _ _ ∙
    ap (same_lengths c.args.given) (due-waveform _ c.args.header.now c.args.given c.requires.1 c.in-Waveform.is).1
