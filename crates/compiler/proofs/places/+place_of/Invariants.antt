-- By the kind of the last item; the measure is the position.
use Rattle.compiler.proofs.places.+place_of.Given as goal

abbrev pub decreases-place_of : goal.decreases-place_of
decreases-place_of l = l.end
