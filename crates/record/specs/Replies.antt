-- What a call replies, and what it leaves. Assumes nothing.
use Rattle.std.specs.Prelude.{◌≡◌, Some, None, Ok, Err, Option, Result}
use Rattle.record.specs.declared.refusal.Refusal.{Refusal}

-- refused with that cause, or accepted
abbrev pub By : Option Refusal → (Refusal → Type 0) → Type 0 → Type 0
By (Some e) Refused Accepted = Refused e
By None Refused Accepted = Accepted

-- a call on a replies r and leaves b: refused, all is as it was; accepted, To says what the answer k and b are
abbrev pub Replies : {R K : Type 0} → Option Refusal → R → Result K Refusal → R → (K → R → Type 0) → Type 0
Replies {R} {K} cause a r b To = By cause (λ e. (r ≡ Err e) × (b ≡ a)) ((k : K) × ((r ≡ Ok k) × To k b))
