-- `mrd_element::letters::image` meets its contract: each stretch, here by its last offset, is filled by the elements that its arm names, which a
-- computation tells; past the end no element starts.
-- Assumes nothing.
use mathlib.Core.Path.{sym, ap}
use Rattle.mrd_format.specs.Image.{table}
use Rattle.mrd_element.specs.Element.{type_at}
use Rattle.mrd_element.specs.Letters.{letter_of, letter_among}
use Rattle.mrd_element.specs.LetterLaws.{letter_among_lem, none-past}
use borrow.Author.Rules.{rules}
use Rattle.mrd_element.proofs.letters.image.Goals as goal

pub returns-in-0-to-3 : goal.returns-in-0-to-3
unfolding type_at letter_among
returns-in-0-to-3 c = letter_among_lem _ _ _ 3 table c.args.offset _ c.among.ensures (search rules) (search rules) tt

pub returns-in-4-to-11 : goal.returns-in-4-to-11
unfolding type_at letter_among
returns-in-4-to-11 c = letter_among_lem _ _ _ 11 table c.args.offset _ c.among-in-4-to-11.ensures (search rules) (search rules) tt

pub returns-in-12-to-15 : goal.returns-in-12-to-15
unfolding type_at letter_among
returns-in-12-to-15 c = letter_among_lem _ _ _ 15 table c.args.offset _ c.among-in-12-to-15.ensures (search rules) (search rules) tt

pub returns-in-16-to-21 : goal.returns-in-16-to-21
unfolding type_at letter_among
returns-in-16-to-21 c = letter_among_lem _ _ _ 21 table c.args.offset _ c.among-in-16-to-21.ensures (search rules) (search rules) tt

pub returns-in-22-to-33 : goal.returns-in-22-to-33
unfolding type_at letter_among
returns-in-22-to-33 c = letter_among_lem _ _ _ 33 table c.args.offset _ c.among-in-22-to-33.ensures (search rules) (search rules) tt

pub returns-in-34-to-35 : goal.returns-in-34-to-35
unfolding type_at letter_among
returns-in-34-to-35 c = letter_among_lem _ _ _ 35 table c.args.offset _ c.among-in-34-to-35.ensures (search rules) (search rules) tt

pub returns-in-36-to-95 : goal.returns-in-36-to-95
unfolding type_at letter_among
returns-in-36-to-95 c = letter_among_lem _ _ _ 95 table c.args.offset _ c.among-in-36-to-95.ensures (search rules) (search rules) tt

pub returns-in-96-to-107 : goal.returns-in-96-to-107
unfolding type_at letter_among
returns-in-96-to-107 c = letter_among_lem _ _ _ 107 table c.args.offset _ c.among-in-96-to-107.ensures (search rules) (search rules) tt

pub returns-in-108-to-123 : goal.returns-in-108-to-123
unfolding type_at letter_among
returns-in-108-to-123 c = letter_among_lem _ _ _ 123 table c.args.offset _ c.among-in-108-to-123.ensures (search rules) (search rules) tt

pub returns-in-124-to-129 : goal.returns-in-124-to-129
unfolding type_at letter_among
returns-in-124-to-129 c = letter_among_lem _ _ _ 129 table c.args.offset _ c.among-in-124-to-129.ensures (search rules) (search rules) tt

pub returns-in-130-to-161 : goal.returns-in-130-to-161
unfolding type_at letter_among
returns-in-130-to-161 c = letter_among_lem _ _ _ 161 table c.args.offset _ c.among-in-130-to-161.ensures (search rules) (search rules) tt

pub returns-in-162-to-193 : goal.returns-in-162-to-193
unfolding type_at letter_among
returns-in-162-to-193 c = letter_among_lem _ _ _ 193 table c.args.offset _ c.among-in-162-to-193.ensures (search rules) (search rules) tt

pub returns-in-194-to-197 : goal.returns-in-194-to-197
unfolding type_at letter_among
returns-in-194-to-197 c = letter_among_lem _ _ _ 197 table c.args.offset _ c.among-in-194-to-197.ensures (search rules) (search rules) tt

pub returns-in_default : goal.returns-in_default
unfolding type_at letter_among
returns-in_default c = sym (ap letter_of (none-past 198 table c.args.offset tt (search rules)))
