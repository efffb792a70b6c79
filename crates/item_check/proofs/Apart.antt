-- An answer tells its refusal, and a call has one answer. Assumes nothing.
use Rattle.std.proofs.Common.{◌≡◌, sym, ◌∙◌}
use Rattle.std.specs.Prelude.{Err}
use Rattle.item_check.specs.declared.Refusal.{Refusal}
use Rattle.item_check.specs.Checks.{Answer}

-- an answer that refuses has one refusal
pub refused_apart : {A : Type 0} (r t : Refusal) → ◌≡◌ {A = Answer A} (Err r) (Err t) → r ≡ t
refused_apart r t e = cc

-- 01 tight.1, form.11: of one definition there is one answer: any two that a promise `answer ≡ definition` allows are equal
pub single_answer : {A : Type 0} (a b given : Answer A) → a ≡ given → b ≡ given → a ≡ b
single_answer a b given e f = e ∙ sym f
