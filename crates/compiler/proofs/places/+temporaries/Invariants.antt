-- The last argument's, and those of the arguments before it; the measure is how many there are.
use Rattle.compiler.proofs.places.+temporaries.Given as goal

abbrev pub decreases-temporaries : goal.decreases-temporaries
decreases-temporaries l = l.n
