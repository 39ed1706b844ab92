-- The product's shapes, number by number.
use Rattle.std.proofs.Common.{arith}
use Rattle.std.proofs.lemmas.Bool.Decides.{nat_tests}
use Rattle.layout.specs.Product.{product_table, product_code, ProductShapes, SmallHeaders}

pub product_shapes : ProductShapes product_table product_code
product_shapes = grind (arith, nat_tests)

pub small_headers : SmallHeaders
small_headers = grind (arith, nat_tests)
