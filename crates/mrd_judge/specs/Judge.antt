-- What judging the message at the front of some bytes finds: 'the first faulty' check decides, and a message that passes all is whole.
-- Assumes nothing.
use Rattle.std.specs.Prelude.{ℕ, List, ◌++◌, Option, Some, None, Result, Ok, Err}
use Rattle.mrd_format.specs.declared.kind.Kind.{Kind}
use Rattle.mrd_format.specs.declared.rules.Rules.{Rules}
use Rattle.mrd_format.specs.declared.rules.Profile.{Profile}
use Rattle.mrd_format.specs.Kinds.{identified}
use Rattle.mrd_format.specs.Message.{id_at, fixed_part, size_of, message_at}
use Rattle.mrd_logic.specs.Checks.{first, unless}
use Rattle.mrd_cursor.specs.declared.cursor.Cursor.{Cursor}
use Rattle.mrd_judge.specs.declared.stages.Whole.{Whole}
use Rattle.mrd_judge.specs.declared.stages.Message.{Message}
use Rattle.mrd_format.specs.declared.refusal.Refusal.{Refusal}
use Rattle.mrd_format.specs.Refusals.{number_of}
use Rattle.mrd_judge.specs.declared.sort.Sort.{Sort}
use Rattle.mrd_judge.specs.Sorts.{sort_of}
use Rattle.mrd_judge.specs.Stages.{fixed_checks, size_checks, text_checks, checks_as}

-- a refusal's number, or the kind and size of a message that passed every check
pub data Judged : Type 0 where
  faulty : ℕ → Judged
  whole : Kind → ℕ → Judged

-- the same without the layout of a waveform's header, which the rules say
pub data Sorted : Type 0 where
  refused_by : ℕ → Sorted
  passes : Sort → ℕ → Sorted

abbrev pub sorted : Judged → Sorted
sorted (faulty n) = refused_by n
sorted (whole k z) = passes (sort_of k) z

-- what is said of a message that is whole, and of one that is refused
abbrev pub judgement_meaning : Result Whole Refusal → Sorted
judgement_meaning (Ok m) = passes m.sort m.size
judgement_meaning (Err r) = refused_by (number_of r)

-- and where the checks of the texts are among them
abbrev pub message_meaning : Result Message Refusal → Judged
message_meaning (Ok m) = whole m.kind m.size
message_meaning (Err r) = faulty (number_of r)

unfoldable pub judge_as : Profile → Option Kind → Cursor → List ℕ → Judged
judge_as f None c t = faulty (first (checks_as f None c t))
judge_as f (Some k) c t = unless (first (checks_as f (Some k) c t)) faulty (whole k (size_of k (fixed_part k t)))

-- the message at the front of t, which is not empty, judged where the walk is at c: by this profile, and by that of the rules
unfoldable pub judge_by : Profile → Rules → Cursor → List ℕ → Judged
judge_by f rules c t = judge_as f (identified rules (id_at t)) c t

unfoldable pub judge : Rules → Cursor → List ℕ → Judged
judge rules c t = judge_as rules.profile (identified rules (id_at t)) c t

-- a message of kind k by its last three stages alone
unfoldable pub judge_body : Profile → Kind → List ℕ → Judged
judge_body f k t =
    unless (first (fixed_checks k t ++ (size_checks (size_of k (fixed_part k t)) t ++ text_checks f k (message_at k t)))) faulty
    (whole k (size_of k (fixed_part k t)))
