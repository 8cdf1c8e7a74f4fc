mod Passing
