-- `classfile::put_classes` meets its contract.
use Rattle.std.proofs.Common.{◌+◌, ◌∙◌, refl, length-set}
use Rattle.grammar.specs.Class.{classes_from}
use Rattle.classfile.proofs.Lines.{put_class}
use Rattle.classfile.proofs.put_classes.Goals as goal

pub loop-k-init : goal.loop-k-init
unfolding classes_from
loop-k-init c = (refl, record { bytes = refl; end = refl })

pub loop-k-preserved : goal.loop-k-preserved
loop-k-preserved c =
    let at = c.loop-k in
    let args = c.args in (
      length-set at.out (args.at + at.k) _ ∙ at.invariant.0,
      put_class args.first at.k _ at.invariant.1 (c.into.ensures ∙ c.class_by_rule.ensures),
    )
