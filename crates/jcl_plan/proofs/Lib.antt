mod Trims
