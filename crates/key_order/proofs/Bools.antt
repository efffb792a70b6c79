-- Two tests joined: both hold where `&&` does, and neither does where `||` does not. Assumes nothing.
use mathlib.Core.Path.{◌≡◌, refl}
use mathlib.Core.Bool.{Bool, true, false, ◌&&◌, ◌||◌, true≢false, false≢true}
use mathlib.Core.Logic.{◌↔◌}

pub both_true : (p q : Bool) → p && q ≡ true → (p ≡ true) × (q ≡ true)
both_true true q e = (refl, e)
both_true false q e = absurd (false≢true e)

pub both_false : (p q : Bool) → p || q ≡ false ↔ ((p ≡ false) × (q ≡ false))
both_false true q = (λ e. absurd (true≢false e), λ e. e.0)
both_false false q = (λ e. (refl, e), λ e. e.1)
