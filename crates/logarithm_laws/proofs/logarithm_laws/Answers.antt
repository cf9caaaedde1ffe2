use Rattle.laws_theory.proofs.Theorem.{made, made_in_pad, made_in_pad_with}
use Rattle.logarithm_laws.proofs.Theorem.{lawful}
use Rattle.logarithm_laws.proofs.logarithm_laws.Goals as goal

pub returns : goal.returns
returns c = lawful _ _ _ _ _ _ _ (record {
  product = made_in_pad _ c.subset_product-product_answer.ensures.number c.subset_product-product_answer.ensures.res_after c.subset_product-product_answer.ensures.pad_after;
  log_product = made_in_pad_with _ c.logarithm-log_product_answer.ensures.value _ c.logarithm-log_product_answer.ensures.res_after
      c.logarithm-log_product_answer.ensures.logarithm c.logarithm-log_product_answer.ensures.pad_after;
  log_E = made_in_pad_with _ c.logarithm-log_e_answer.ensures.value _ c.logarithm-log_e_answer.ensures.res_after
      c.logarithm-log_e_answer.ensures.logarithm c.logarithm-log_e_answer.ensures.pad_after;
  log_F = made_in_pad_with _ c.logarithm-log_f_answer.ensures.value _ c.logarithm-log_f_answer.ensures.res_after
      c.logarithm-log_f_answer.ensures.logarithm c.logarithm-log_f_answer.ensures.pad_after;
  sum = made _ c.sum-sum_answer.ensures.value c.sum-sum_answer.ensures.res_after;
  exp_A = made_in_pad _ c.exponential-exp_a_answer.ensures.value c.exponential-exp_a_answer.ensures.res_after c.exponential-exp_a_answer.ensures.pad_after;
  inverse = made_in_pad_with _ c.inverse-inverse_answer.ensures.value _ c.inverse-inverse_answer.ensures.res_after
      c.inverse-inverse_answer.ensures.inverse c.inverse-inverse_answer.ensures.pad_after;
  difference = made _ c.difference-difference_answer.ensures.value c.difference-difference_answer.ensures.res_after;
  exp_difference = made_in_pad _ c.exponential-exp_difference_answer.ensures.value c.exponential-exp_difference_answer.ensures.res_after c.exponential-exp_difference_answer.ensures.pad_after;
})
