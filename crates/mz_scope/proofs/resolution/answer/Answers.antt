use Rattle.mz_scope.specs.declared.fault.Cause.TheVariants.{Unknown, Twice, Shape, NotExhaustive, TooMany}
use Rattle.mz_scope.specs.Flattening.{faults_of}
use Rattle.mz_scope.proofs.WalkEnds.{first_of_cause}
use Rattle.mz_scope.proofs.resolution.answer.Goals as goal

pub returns-in-Unknown : goal.returns-in-Unknown
returns-in-Unknown c = λ tree first. first_of_cause (faults_of tree) c.args.fault Unknown c.in-Unknown.is first

pub returns-in-Twice : goal.returns-in-Twice
returns-in-Twice c = λ tree first. first_of_cause (faults_of tree) c.args.fault Twice c.in-Twice.is first

pub returns-in-Shape : goal.returns-in-Shape
returns-in-Shape c = λ tree first. first_of_cause (faults_of tree) c.args.fault Shape c.in-Shape.is first

pub returns-in-NotExhaustive : goal.returns-in-NotExhaustive
returns-in-NotExhaustive c = λ tree first. first_of_cause (faults_of tree) c.args.fault NotExhaustive c.in-NotExhaustive.is first

pub returns-in-TooMany : goal.returns-in-TooMany
returns-in-TooMany c = λ tree first. first_of_cause (faults_of tree) c.args.fault TooMany c.in-TooMany.is first
