-- The values of attributes, as they are compared without memory.
use Rattle.path_names.specs.NameMatching.{Compared, octets, text, unprepared}
use Rattle.path_names.specs.Preparation.{prepared}
use Rattle.pkix_name.specs.Characters.{codes_of}
use Rattle.path_names.specs.declared.attribute.ComparedValue.{ComparedValue}
use Rattle.path_names.specs.declared.attribute.ComparedValue.TheVariants.{Text, Unprepared, Octets}

abbrev pub compared_as : ComparedValue → Compared
compared_as (Text cs) = text (prepared (codes_of cs))
compared_as (Unprepared b) = unprepared b.now
compared_as (Octets b) = octets b.now
