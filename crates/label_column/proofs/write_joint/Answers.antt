use Rattle.label_column.proofs.NameSteps.{joint_none, joint_room, joint-one}
use Rattle.label_column.proofs.write_joint.Goals as goal

pub returns-then-rest-eq0 : goal.returns-then-rest-eq0
returns-then-rest-eq0 c = joint_none c.if-rest-eq0.true c.requires

pub write_byte-requires : goal.write_byte-requires
write_byte-requires c = joint_room _ c.if-rest-eq0.false c.requires

pub returns : goal.returns
returns c = joint-one c.if-rest-eq0.false c.write_byte.ensures
