-- `rows::mask::up_to` meets its contract.
use Rattle.std.proofs.Common.{◌∙◌, ◌+◌, arith, leb, ltb, le-leb}
use Rattle.rows.proofs.Rows.{word_ext}
use Rattle.rows.proofs.Masks.{all_is, up_to_step}
use Rattle.rows.proofs.mask.up_to.Goals as goal

pub returns-then-k-lt64 : goal.returns-then-k-lt64
returns-then-k-lt64 c =
    let k = c.args.k in
    c.below.ensures ∙ word_ext 64 (λ e. ltb e (k + 1)) (λ e. leb e k) (λ e m. up_to_step e k)

pub returns-else-k-lt64 : goal.returns-else-k-lt64
returns-else-k-lt64 c =
    let k = c.args.k in
    all_is 64 (λ e. leb e k) (λ e m. le-leb e k (omega arith))
