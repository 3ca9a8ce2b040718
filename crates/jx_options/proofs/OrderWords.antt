-- The words and the names of progression orders: the tables have the numbers of all orders, and no others.
use Rattle.std.proofs.Common.{◌≡◌, arith, ℕ, zero, suc, List, codes, refl, Option, None, Some, IfSome}
use Rattle.jx_base.specs.OrderNumbers.{IsOrderNumber}
use Rattle.jx_options.specs.Orders.{order_said, orders, word_named}
use Rattle.jx_options.proofs.ValueLemmas.{found}

pub order_few : (text : List ℕ) → IfSome (order_said text) (λ v. IfSome v IsOrderNumber)
order_few text = found (λ v. IfSome v IsOrderNumber) orders text (tt, (omega arith, (omega arith, (omega arith, (omega arith, (omega arith, tt))))))

abbrev pub order_word : Option ℕ → List ℕ
order_word None = codes "keep"
order_word (Some order) = word_named order

pub order_back : (order : Option ℕ) → IfSome order IsOrderNumber → order_said (order_word order) ≡ Some order
order_back None few = refl
order_back (Some zero) few = refl
order_back (Some (suc zero)) few = refl
order_back (Some (suc (suc zero))) few = refl
order_back (Some (suc (suc (suc zero)))) few = refl
order_back (Some (suc (suc (suc (suc zero))))) few = refl
order_back (Some (suc (suc (suc (suc (suc n)))))) few = absurd (omega arith)
