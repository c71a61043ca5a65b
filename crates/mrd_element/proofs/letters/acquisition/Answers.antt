-- `mrd_element::letters::acquisition` meets its contract: each stretch, here by its last offset, is filled by the elements that its arm names, which a
-- computation tells; past the end no element starts.
-- Assumes nothing.
use mathlib.Core.Path.{sym, ap}
use Rattle.mrd_format.specs.Acquisition.{table}
use Rattle.mrd_element.specs.Element.{type_at}
use Rattle.mrd_element.specs.Letters.{letter_of, letter_among}
use Rattle.mrd_element.specs.LetterLaws.{letter_among_lem, none-past}
use borrow.Author.Rules.{rules}
use Rattle.mrd_element.proofs.letters.acquisition.Goals as goal

pub returns-in-0-to-1 : goal.returns-in-0-to-1
unfolding type_at letter_among
returns-in-0-to-1 c = letter_among_lem _ _ _ 1 table c.args.offset _ c.among.ensures (search rules) (search rules) tt

pub returns-in-2-to-9 : goal.returns-in-2-to-9
unfolding type_at letter_among
returns-in-2-to-9 c = letter_among_lem _ _ _ 9 table c.args.offset _ c.among-in-2-to-9.ensures (search rules) (search rules) tt

pub returns-in-10-to-33 : goal.returns-in-10-to-33
unfolding type_at letter_among
returns-in-10-to-33 c = letter_among_lem _ _ _ 33 table c.args.offset _ c.among-in-10-to-33.ensures (search rules) (search rules) tt

pub returns-in-34-to-39 : goal.returns-in-34-to-39
unfolding type_at letter_among
returns-in-34-to-39 c = letter_among_lem _ _ _ 39 table c.args.offset _ c.among-in-34-to-39.ensures (search rules) (search rules) tt

pub returns-in-40-to-167 : goal.returns-in-40-to-167
unfolding type_at letter_among
returns-in-40-to-167 c = letter_among_lem _ _ _ 167 table c.args.offset _ c.among-in-40-to-167.ensures (search rules) (search rules) tt

pub returns-in-168-to-177 : goal.returns-in-168-to-177
unfolding type_at letter_among
returns-in-168-to-177 c = letter_among_lem _ _ _ 177 table c.args.offset _ c.among-in-168-to-177.ensures (search rules) (search rules) tt

pub returns-in-178-to-241 : goal.returns-in-178-to-241
unfolding type_at letter_among
returns-in-178-to-241 c = letter_among_lem _ _ _ 241 table c.args.offset _ c.among-in-178-to-241.ensures (search rules) (search rules) tt

pub returns-in-242-to-275 : goal.returns-in-242-to-275
unfolding type_at letter_among
returns-in-242-to-275 c = letter_among_lem _ _ _ 275 table c.args.offset _ c.among-in-242-to-275.ensures (search rules) (search rules) tt

pub returns-in-276-to-307 : goal.returns-in-276-to-307
unfolding type_at letter_among
returns-in-276-to-307 c = letter_among_lem _ _ _ 307 table c.args.offset _ c.among-in-276-to-307.ensures (search rules) (search rules) tt

pub returns-in-308-to-339 : goal.returns-in-308-to-339
unfolding type_at letter_among
returns-in-308-to-339 c = letter_among_lem _ _ _ 339 table c.args.offset _ c.among-in-308-to-339.ensures (search rules) (search rules) tt

pub returns-in_default : goal.returns-in_default
unfolding type_at letter_among
returns-in_default c = sym (ap letter_of (none-past 340 table c.args.offset tt (search rules)))
