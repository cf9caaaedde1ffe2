use Rattle.definitions.specs.Recipes.{opening_text, group, exponential, logarithm, inverse}
use Rattle.recipe_words.proofs.Words.{begins_is, opens_group, opens_exponential, opens_logarithm, opens_inverse, opens_nothing}
use Rattle.recipe_words.proofs.opening_at.Goals as goal

pub returns-then-starts_with : goal.returns-then-starts_with
returns-then-starts_with c = opens_group _
    (begins_is (opening_text group) c.args.line.now c.args.at c.starts_with.ensures.value c.if-starts_with.true)

pub returns-then-starts_with-2 : goal.returns-then-starts_with-2
returns-then-starts_with-2 c = opens_exponential _
    (begins_is (opening_text group) c.args.line.now c.args.at c.starts_with.ensures.value c.if-starts_with.false)
    (begins_is (opening_text exponential) c.args.line.now c.args.at c.starts_with-else-starts_with.ensures.value c.if-starts_with-2.true)

pub returns-then-starts_with-3 : goal.returns-then-starts_with-3
returns-then-starts_with-3 c = opens_logarithm _
    (begins_is (opening_text group) c.args.line.now c.args.at c.starts_with.ensures.value c.if-starts_with.false)
    (begins_is (opening_text exponential) c.args.line.now c.args.at c.starts_with-else-starts_with.ensures.value c.if-starts_with-2.false)
    (begins_is (opening_text logarithm) c.args.line.now c.args.at c.starts_with-else-starts_with-2.ensures.value c.if-starts_with-3.true)

pub returns-then-starts_with-4 : goal.returns-then-starts_with-4
returns-then-starts_with-4 c = opens_inverse _
    (begins_is (opening_text group) c.args.line.now c.args.at c.starts_with.ensures.value c.if-starts_with.false)
    (begins_is (opening_text exponential) c.args.line.now c.args.at c.starts_with-else-starts_with.ensures.value c.if-starts_with-2.false)
    (begins_is (opening_text logarithm) c.args.line.now c.args.at c.starts_with-else-starts_with-2.ensures.value c.if-starts_with-3.false)
    (begins_is (opening_text inverse) c.args.line.now c.args.at c.starts_with-else-starts_with-3.ensures.value c.if-starts_with-4.true)

pub returns-else-starts_with-4 : goal.returns-else-starts_with-4
returns-else-starts_with-4 c = opens_nothing _
    (begins_is (opening_text group) c.args.line.now c.args.at c.starts_with.ensures.value c.if-starts_with.false)
    (begins_is (opening_text exponential) c.args.line.now c.args.at c.starts_with-else-starts_with.ensures.value c.if-starts_with-2.false)
    (begins_is (opening_text logarithm) c.args.line.now c.args.at c.starts_with-else-starts_with-2.ensures.value c.if-starts_with-3.false)
    (begins_is (opening_text inverse) c.args.line.now c.args.at c.starts_with-else-starts_with-3.ensures.value c.if-starts_with-4.false)
