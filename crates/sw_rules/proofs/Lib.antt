mod NoBreach
