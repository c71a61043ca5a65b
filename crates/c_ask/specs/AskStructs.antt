-- The question that a C struct stands for, and a reply as the C struct: the answer of what was asked in the member for it; every member carries the
-- reply's refusal.
-- Assumes nothing.
use Rattle.std.specs.Prelude.{ℕ, eqb}
use Rattle.mrd_logic.specs.Answer.{Answer, answered, stream, number}
use Rattle.mrd_logic.specs.Choice.{pick}
use Rattle.mrd_ask.specs.declared.question.Question as ask
use Rattle.mrd_ask.specs.declared.question.Question.TheVariants.{Place, View, Field, Find}
use Rattle.mrd_ask.specs.Replies.{Replied, place, view, field, found}
use Rattle.c_place.specs.declared.placed.Placed.{Placed}
use Rattle.c_place.specs.PlacedStruct.{refused_place, c_record}
use Rattle.c_record.specs.declared.view.ViewPlace.{ViewPlace}
use Rattle.c_record.specs.declared.field.FieldAnswer.{FieldAnswer}
use Rattle.c_record.specs.declared.found.Found.{Found}
use Rattle.c_record.specs.RecordStructs.{view_as, refused_field, c_value, found_as}
use Rattle.c_record.specs.PartNumbers.{no_part, part_numbered}
use Rattle.c_ask.specs.declared.question.Question.{Question}
use Rattle.c_ask.specs.declared.reply.Reply.{Reply}

-- the questions, from 1 on; any other number asks for a part that no record has
unfoldable pub question_of : Question → ask.Question
question_of q =
    let n = q.number in
    pick (eqb q.what 1) (Place n)
    (pick (eqb q.what 2) (View n (part_numbered q.part q.channel))
    (pick (eqb q.what 3) (Field n q.offset)
    (pick (eqb q.what 4) (Find n) (View n no_part))))

abbrev pub reply_as : (refusal r byte : ℕ) → Placed → ViewPlace → FieldAnswer → Found → Reply
reply_as f r b p v x n =
    record { refusal = f; «record» = r; byte = b; place = p; view = v; field = x; found = n }

-- a reply without an answer
abbrev pub refused_reply : (refusal r byte : ℕ) → Reply
refused_reply f r b = reply_as f r b (refused_place f r b) (view_as f r b 0 0) (refused_field f r b) (found_as f r b 0)

abbrev pub c_reply : Answer Replied → Reply
c_reply (answered (place l)) = reply_as 0 0 0 (c_record l) (view_as 0 0 0 0 0) (refused_field 0 0 0) (found_as 0 0 0 0)
c_reply (answered (view x)) = reply_as 0 0 0 (refused_place 0 0 0) (view_as 0 0 0 x.start x.length) (refused_field 0 0 0) (found_as 0 0 0 0)
c_reply (answered (field v)) = reply_as 0 0 0 (refused_place 0 0 0) (view_as 0 0 0 0 0) (c_value v) (found_as 0 0 0 0)
c_reply (answered (found i)) = reply_as 0 0 0 (refused_place 0 0 0) (view_as 0 0 0 0 0) (refused_field 0 0 0) (found_as 0 0 0 i)
c_reply (stream f r b) = refused_reply f r b
c_reply (number n) = refused_reply n 0 0
