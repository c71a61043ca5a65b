-- `mrd_element::element::float_of` meets its contract: the test tells a NaN's pattern, and any other pattern is read back from its float.
-- Assumes nothing.
use Rattle.mrd_element.specs.FloatLaws.{nan_meaning, no_nan, float-meaning}
use Rattle.mrd_element.proofs.element.float_of.Goals as goal

pub returns-then-nan : goal.returns-then-nan
returns-then-nan c = nan_meaning c.args.bits c.if-nan.true

pub float_from_bits-result : goal.float_from_bits-result
float_from_bits-result c = no_nan c.args.bits c.if-nan.false

pub returns : goal.returns
returns c = float-meaning c.args.bits c.ranges.bits.fits c.if-nan.false
