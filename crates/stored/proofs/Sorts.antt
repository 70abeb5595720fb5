-- Whether two sorts are the same.
use Rattle.std.proofs.Common.{true, ◌≡◌, refl, subst, Option, Some, None}
use mathlib.Core.Bool.{false≢true}
use Rattle.stored.specs.declared.nodes.Sort.{Sort}
use Rattle.stored.specs.declared.nodes.Sort.TheVariants.{Proposition, Formula}
use Rattle.stored.specs.Node.{same_sort}

pub same_sort-true : (s t : Option Sort) → same_sort s t ≡ true → s ≡ t
unfolding same_sort
same_sort-true None None e = refl
same_sort-true (Some Proposition) (Some Proposition) e = refl
same_sort-true (Some Formula) (Some Formula) e = refl
same_sort-true None (Some Proposition) e = absurd (false≢true e)
same_sort-true None (Some Formula) e = absurd (false≢true e)
same_sort-true (Some Proposition) None e = absurd (false≢true e)
same_sort-true (Some Proposition) (Some Formula) e = absurd (false≢true e)
same_sort-true (Some Formula) None e = absurd (false≢true e)
same_sort-true (Some Formula) (Some Proposition) e = absurd (false≢true e)

itself : (s : Option Sort) → same_sort s s ≡ true
unfolding same_sort
itself None = refl
itself (Some Proposition) = refl
itself (Some Formula) = refl

pub sort_same : (s t : Option Sort) → s ≡ t → same_sort s t ≡ true
sort_same s t e = subst (λ (u : Option Sort). same_sort s u ≡ true) e (itself s)
