-- The numbers of classes and of monitorabilities.
use Rattle.std.specs.Prelude.{ℕ}
use Rattle.classes.specs.declared.class.Class.{Class}
use Rattle.classes.specs.declared.class.Class.TheVariants as class
use Rattle.classes.specs.declared.class.Monitorability.{Monitorability}
use Rattle.classes.specs.declared.class.Monitorability.TheVariants as monitorability

-- 01's numbers of the classes: good, bad, positive, negative, neutral, ugly
abbrev pub class_number : Class → ℕ
class_number class.Good = 0
class_number class.Bad = 1
class_number class.Positive = 2
class_number class.Negative = 3
class_number class.Neutral = 4
class_number class.Ugly = 5

-- 01's numbers of the monitorabilities: pos, neg, both, none
abbrev pub monitorability_number : Monitorability → ℕ
monitorability_number monitorability.Positive = 0
monitorability_number monitorability.Negative = 1
monitorability_number monitorability.Both = 2
monitorability_number monitorability.Neither = 3
