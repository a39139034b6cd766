-- Where a value goes, as plain data.
use Rattle.fs_model.specs.View.{named_expression}
use Rattle.fs_grammar.specs.Grammar as grammar
use Rattle.fs_text_parser.specs.declared.transitions.Destination.{Destination}
use Rattle.fs_text_parser.specs.declared.transitions.Destination.TheVariants.{Scalar, Element, Port}

abbrev pub destination_of : Destination → grammar.Destination
destination_of (Scalar x) = grammar.scalar x
destination_of (Element x i) = grammar.element x (named_expression i)
destination_of (Port x) = grammar.port x
