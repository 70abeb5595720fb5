-- `checker::check::verdict_of` meets its contract.
use Rattle.std.proofs.Common.{refl, ap, ◌∙◌, arith, ℕ, replicate}
use Rattle.places.proofs.Walks.{laid_own}
use Rattle.checker.proofs.Clauses.{all_first, first_laid, verdict_again}
use Rattle.checker.proofs.check.verdict_of.Goals as goal

pub reach_table-reach-requires : goal.reach_table-reach-requires
reach_table-reach-requires c = omega (arith, c.requires.given.few_nodes, c.requires.given.nodes_long)

pub lay_first-requires : goal.lay_first-requires
lay_first-requires c = record { given = c.requires.given; inside = all_first c.requires.given.some_cycles }

pub failing_advice-advice-requires : goal.failing_advice-advice-requires
failing_advice-advice-requires c =
    let p = c.requires in
    record { laid = laid_own (first_laid p.given c.reach_table-reach.ensures c.lay_first.ensures.columns_after c.lay_first.ensures.tables c.lay_first.auto.words); sounds = (p.sounds, refl) }

pub finding_over-finding-requires : goal.finding_over-finding-requires
finding_over-finding-requires c =
    let p = c.requires in
    record { laid = laid_own c.failing_advice-advice.ensures.still_laid; sounds = (p.sounds, c.failing_advice-advice.ensures.rows_long) }

pub returns : goal.returns
returns c =
    let p = c.requires in
    let l = first_laid p.given c.reach_table-reach.ensures c.lay_first.ensures.columns_after c.lay_first.ensures.tables c.lay_first.auto.words in record {
      value = verdict_again l c.failing_advice-advice.ensures.still_laid _ c.failing_advice-advice.ensures.value c.finding_over-finding.ensures;
      words_after = c.clear.ensures
          ∙ ap (λ (k : ℕ). replicate k 0)
          (c.finding_over-finding.auto.words ∙ c.failing_advice-advice.auto.words ∙ c.lay_first.auto.words);
    }
