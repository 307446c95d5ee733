-- What is written for a book, for a group of a network, or for all of its groups, is a function of the octets and of
-- the number of slots (own).
use Rattle.std.specs.Prelude.{◌≡◌, ℕ, List}
use Rattle.warnc_run.specs.Engine.{IsProductOf}
use Rattle.warnc_run.specs.declared.run.Books.{Books}
use Rattle.warnc_run.specs.declared.product.Product.{Product}

-- with one session, what is written is the same whatever the number of workers, the machine and the day
abbrev pub OutputIsOne : Type 0
OutputIsOne = (made : Product) (books : Books) (slots : ℕ) (input output other : List ℕ)
    → IsProductOf made books slots 1 input output
    → IsProductOf made books slots 1 input other
    → output ≡ other
