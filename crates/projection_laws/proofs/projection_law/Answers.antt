use Rattle.laws_theory.proofs.Theorem.{made_in_pad}
use Rattle.projection_laws.proofs.Theorem.{lawful}
use Rattle.projection_laws.proofs.projection_law.Goals as goal

pub returns : goal.returns
returns c = let x = c.projection-projection_answer.ensures in
    let y = c.composition-composition_answer.ensures in
    let z = c.subset_product-product_answer.ensures in
    lawful _ _ _ _ _ _ (record {
      projection = made_in_pad _ x.value x.res_after x.pad_after;
      composition = made_in_pad _ y.value y.res_after y.pad_after;
      product = made_in_pad _ z.number z.res_after z.pad_after;
    })
