-- `mrd_format::size::product` meets its contract: the product of two numbers of 16 bits has at most 32.
-- Assumes nothing.
use native.Mathlib.Omega.{arith}
use mathlib.Core.Path.{refl}
use borrow.Author.Rules.{rules}
use Rattle.mrd_format.specs.SizeLaws.{product}
use Rattle.mrd_format.proofs.size.product.Goals as goal

pub overflow_mul-result : goal.overflow_mul-result
overflow_mul-result c = omega (arith, product {a = c.args.a} {b = c.args.b} {x = 65535} {y = 65535} (search rules) (search rules))

pub returns : goal.returns
returns c = (refl, omega (arith, product {a = c.args.a} {b = c.args.b} {x = 65535} {y = 65535} (search rules) (search rules)))
