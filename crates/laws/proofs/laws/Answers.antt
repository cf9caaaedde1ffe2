use Rattle.laws_theory.proofs.Theorem.{made, made_in_pad, made_in_pad_with, laws_hold}
use Rattle.laws.proofs.laws.Goals as goal

pub returns : goal.returns
returns c = laws_hold _ _ _ _ _ _ _ _ (record {
  sum = made _ c.sum-sum_answer.ensures.value c.sum-sum_answer.ensures.res_after;
  exp_sum = made_in_pad _ c.exponential-exp_sum_answer.ensures.value c.exponential-exp_sum_answer.ensures.res_after c.exponential-exp_sum_answer.ensures.pad_after;
  exp_A = made_in_pad _ c.exponential-exp_a_answer.ensures.value c.exponential-exp_a_answer.ensures.res_after c.exponential-exp_a_answer.ensures.pad_after;
  exp_B = made_in_pad _ c.exponential-exp_b_answer.ensures.value c.exponential-exp_b_answer.ensures.res_after c.exponential-exp_b_answer.ensures.pad_after;
  product = made_in_pad _ c.subset_product-product_answer.ensures.number c.subset_product-product_answer.ensures.res_after c.subset_product-product_answer.ensures.pad_after;
  log_exp = made_in_pad_with _ c.logarithm-log_exp_answer.ensures.value _ c.logarithm-log_exp_answer.ensures.res_after
      c.logarithm-log_exp_answer.ensures.logarithm c.logarithm-log_exp_answer.ensures.pad_after;
  log_E = made_in_pad_with _ c.logarithm-log_e_answer.ensures.value _ c.logarithm-log_e_answer.ensures.res_after
      c.logarithm-log_e_answer.ensures.logarithm c.logarithm-log_e_answer.ensures.pad_after;
  exp_log = made_in_pad _ c.exponential-exp_log_answer.ensures.value c.exponential-exp_log_answer.ensures.res_after c.exponential-exp_log_answer.ensures.pad_after;
  binomial = made _ c.binomial_product-binomial_answer.ensures.value c.binomial_product-binomial_answer.ensures.res_after;
  comp_binomial = made_in_pad _ c.composition-comp_binomial_answer.ensures.value c.composition-comp_binomial_answer.ensures.res_after c.composition-comp_binomial_answer.ensures.pad_after;
  comp_f = made_in_pad _ c.composition-comp_f_answer.ensures.value c.composition-comp_f_answer.ensures.res_after c.composition-comp_f_answer.ensures.pad_after;
  comp_g = made_in_pad _ c.composition-comp_g_answer.ensures.value c.composition-comp_g_answer.ensures.res_after c.composition-comp_g_answer.ensures.pad_after;
  comp_product = made_in_pad _ c.subset_product-comp_product_answer.ensures.number c.subset_product-comp_product_answer.ensures.res_after c.subset_product-comp_product_answer.ensures.pad_after;
})
