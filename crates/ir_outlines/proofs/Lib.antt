mod Resolves
