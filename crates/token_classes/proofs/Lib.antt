mod FormatLoops
