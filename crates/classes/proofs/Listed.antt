-- A byte that is one of several has the class of each of them.
use Rattle.std.proofs.Common.{◌≡◌, ℕ, ◌⊎◌, inl, inr}

module _ (P : ℕ → Type 0) (b : ℕ) where
  pub listed : (k : ℕ) {Later : Type 0} → P k → (Later → P b) → (b ≡ k) ⊎ Later → P b
  listed k first later (inl e) = rw e first
  listed k first later (inr more) = later more

  pub listed_last : (k : ℕ) → P k → b ≡ k → P b
  listed_last k first e = rw e first
