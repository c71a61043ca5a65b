-- The 'order of checks at each message', in five stages: front, id, fixed part, size and end, texts. Each stage has its checks as a list, and the
-- whole list is theirs, one after the other.
-- Assumes nothing.
use Rattle.std.specs.Prelude.{ℕ, ◌+◌, true, not, List, [], ◌∷◌, ◌++◌, leb, ltb, eqb, length, Option, Some, None}
use Rattle.mrd_format.specs.declared.kind.Kind.{Kind}
use Rattle.mrd_format.specs.Kinds.{fixed_size}
use Rattle.mrd_format.specs.declared.rules.Profile.{Profile}
use Rattle.mrd_format.specs.Message.{limit, fixed_part, own_checks, size_of, message_at}
use Rattle.mrd_format.specs.Content.{record_of}
use Rattle.mrd_format.specs.Profiles.{texts_in, encoded}
use Rattle.mrd_logic.specs.Checks.{Check, ◌when◌}
use Rattle.mrd_cursor.specs.declared.cursor.Cursor.{Cursor}
use Rattle.mrd_cursor.specs.Order.{allowed, is_closed}
use Rattle.mrd_cursor.specs.Cursors.{max_messages}

-- before the id: 'bytes after a close give 12 ..; then 19, 1'
unfoldable pub front_checks : Cursor → List ℕ → List Check
front_checks c t =
    (12 when is_closed c.phase) ∷
    (19 when leb max_messages c.number) ∷
    (1 when eqb (length t) 1) ∷
    []

-- the id: 2 where it is not in the table, else 12 by the order of messages
unfoldable pub id_checks : Option Kind → Cursor → List Check
id_checks None c = (2 when true) ∷ []
id_checks (Some k) c = (12 when not (allowed k c.phase)) ∷ []

-- the fixed part of a message of kind k: '3, 4 to 9 in number order where they apply'
unfoldable pub fixed_checks : Kind → List ℕ → List Check
fixed_checks k t = (3 when ltb (length t) (2 + fixed_size k)) ∷ own_checks k (fixed_part k t)

-- the size z of a whole message, and its end: 10, 11
unfoldable pub size_checks : ℕ → List ℕ → List Check
size_checks z t = (10 when ltb limit z) ∷ (11 when ltb (length t) z) ∷ []

-- the texts of the message m of kind k, by the caller's profile: 21, 'a stream refusal after 11'
unfoldable pub text_checks : Profile → Kind → List ℕ → List Check
text_checks f k m = (21 when not (encoded f (texts_in (record_of k m).parts))) ∷ []

pub data Stage : Type 0 where
  front id fixed size text : Stage

-- the checks of a stage, for the message at the front of t, which is not empty; without a kind, those of the id are the last
abbrev pub stage_checks : Profile → Stage → Option Kind → Cursor → List ℕ → List Check
stage_checks f front i c t = front_checks c t
stage_checks f id i c t = id_checks i c
stage_checks f fixed None c t = []
stage_checks f fixed (Some k) c t = fixed_checks k t
stage_checks f size None c t = []
stage_checks f size (Some k) c t = size_checks (size_of k (fixed_part k t)) t
stage_checks f text None c t = []
stage_checks f text (Some k) c t = text_checks f k (message_at k t)

-- the stages in order
abbrev pub stages : List Stage
stages = front ∷ id ∷ fixed ∷ size ∷ text ∷ []

-- the checks of stages, one stage after the other
abbrev pub checks_of : Profile → List Stage → Option Kind → Cursor → List ℕ → List Check
checks_of f [] i c t = []
checks_of f (g ∷ gs) i c t = stage_checks f g i c t ++ checks_of f gs i c t

-- all checks of the message at the front of t, in order
unfoldable pub checks_as : Profile → Option Kind → Cursor → List ℕ → List Check
checks_as f i c t = checks_of f stages i c t
